-- Data that were read break no rule: where the whole holds a value, each part before it did, and each rule was kept.
use Rattle.std.proofs.Common.{◌≡◌, ℕ, ℤ, pos, negsuc, ◌≤◌, Bool, true, false, Option, Some, None, length, refl}
use Rattle.std.proofs.Common.{subst, arith}
use Rattle.std.proofs.lemmas.Bool.Decides.{nat_tests}
use Rattle.std.specs.Prelude.{Result, Ok, Err, codes, unsigned_abs, unwrap_or, if◌then◌else◌}
use Rattle.std.specs.Str.{bytes_eq}
use Rattle.toml.specs.Data.{Members, as_str, as_integer}
use Rattle.sdm_rules.specs.declared.authorities.Authority.{Authority}
use Rattle.sdm_rules.specs.declared.faults.Section.TheVariants as sections
use Rattle.sdm_rules.specs.Keys as keys
use Rattle.sdm_rules.specs.Data.{TrainAndTrack}
use Rattle.sdm_rules.specs.Ranges.{is_within, longest_track, top_kmh, train_fault, national_fault, track_fault}
use Rattle.sdm_formats.specs.declared.faults.DataFault.{DataFault}
use Rattle.sdm_formats.specs.declared.faults.DataFault.TheVariants as data_faults
use Rattle.sdm_formats.specs.declared.faults.DataFault.TheVariants.{Value}
use Rattle.sdm_data.specs.Members.{◌>>=◌, SectionMembers, section_of, at, known, required, optional, within, number}
use Rattle.sdm_data.specs.Versions.{end_keys, limit_keys}
use Rattle.sdm_data.specs.Sections.{root_in, train_in, national_in, track_in, authority_in, end_in}
use Rattle.sdm_data.specs.Sections.{limit_in}
use Rattle.sdm_data.specs.Journey.{unless_broken, data_of}
use Rattle.sdm_data.specs.Tables.{IsAuthorityInRange}

-- an answer has one value
same_Ok : {A : Type 0} (x y : A) (answer : Result A DataFault) → answer ≡ Ok x → answer ≡ Ok y → x ≡ y
same_Ok x y answer is also = cc

-- where the whole holds a value, so does its first part
from_first : {A B : Type 0} (first : Result A DataFault) (rest : A → Result B DataFault) (y : B) →
    (first >>= rest) ≡ Ok y → (x : A) × (first ≡ Ok x) × (rest x ≡ Ok y)
from_first (Ok x) rest y e = (x, refl, e)
from_first (Err fault) rest y e = cc

-- where the whole holds a value, the rule is kept
from_rule : {A F B : Type 0} (fault : F → DataFault) (o : Option F) (kept : A) (rest : A → Result B DataFault)
    (y : B) → (unless_broken fault o kept >>= rest) ≡ Ok y → (o ≡ None) × (rest kept ≡ Ok y)
from_rule fault None kept rest y e = (refl, e)
from_rule fault (Some f) kept rest y e = cc

-- ---- the authority

-- where a test decides, it was passed
if_passed : {A : Type 0} (test : Bool) (x : A) (fault : DataFault) (y : A) →
    (if test then Ok x else Err fault) ≡ Ok y → (test ≡ true) × (x ≡ y)
if_passed true x fault y e = (refl, grind arith)
if_passed false x fault y e = cc

-- a number that was read is in its range
is_range : (least greatest : ℕ) (n : ℤ) → is_within (pos least) (pos greatest) n ≡ true →
    (least ≤ unsigned_abs n) × (unsigned_abs n ≤ greatest)
is_range least greatest (pos n) is = (grind (arith, nat_tests), grind (arith, nat_tests))
is_range least greatest (negsuc n) is = absurd cc

-- a number that passes the test of its range is in it
within_range : (s : SectionMembers) (key least greatest : ℕ) (n : ℤ) (m : ℕ) → within s key least greatest n ≡ Ok m →
    (least ≤ m) × (m ≤ greatest)
within_range s key least greatest n m e =
    let passed = if_passed (is_within (pos least) (pos greatest) n) (unsigned_abs n) (Value (at s key)) m e in
    subst (λ (k : ℕ). (least ≤ k) × (k ≤ greatest)) passed.1 (is_range least greatest n passed.0)

-- a number that was read at a key is in its range
number_range : (s : SectionMembers) (key least greatest m : ℕ) → number s key least greatest ≡ Ok m →
    (least ≤ m) × (m ≤ greatest)
unfolding number
number_range s key least greatest m e =
    let n = from_first (required as_integer s key) (within s key least greatest) m e in
    within_range s key least greatest n.0 m n.2

-- an end of authority that was read is in its ranges
end_range : (s : SectionMembers) (a : Authority) → end_in s ≡ Ok a → IsAuthorityInRange a
unfolding end_in
end_range s a e =
    let keys_known = from_first (known s end_keys) _ a e in
    let eoa = from_first (number s keys.authority_eoa 0 longest_track) _ a keys_known.2 in
    let svl = from_first (number s keys.authority_svl 0 longest_track) _ a eoa.2 in
    let kmh = from_first (optional as_integer s keys.authority_release) _ a svl.2 in
    let release = from_first (within s keys.authority_release 0 top_kmh (unwrap_or kmh.0 (pos 0))) _ a kmh.2 in
    subst IsAuthorityInRange (same_Ok _ a _ refl release.2) (
      (number_range s keys.authority_eoa 0 longest_track eoa.0 eoa.1).1,
      (number_range s keys.authority_svl 0 longest_track svl.0 svl.1).1,
      (within_range s keys.authority_release 0 top_kmh (unwrap_or kmh.0 (pos 0)) release.0 release.1).1,
    )

-- so is a limit of authority
limit_range : (s : SectionMembers) (a : Authority) → limit_in s ≡ Ok a → IsAuthorityInRange a
unfolding limit_in
limit_range s a e =
    let keys_known = from_first (known s limit_keys) _ a e in
    let loa = from_first (number s keys.authority_loa 0 longest_track) _ a keys_known.2 in
    let speed = from_first (number s keys.authority_speed 1 top_kmh) _ a loa.2 in
    let in_range = number_range s keys.authority_speed 1 top_kmh speed.0 speed.1 in
    subst IsAuthorityInRange (same_Ok _ a _ refl speed.2) (
      (number_range s keys.authority_loa 0 longest_track loa.0 loa.1).1,
      in_range.0,
      in_range.1,
    )

-- one of two, or neither
kinds_range : (is_end is_limit : Bool) (s : SectionMembers) (fault : DataFault) (a : Authority) →
    (if is_end then end_in s else if is_limit then limit_in s else Err fault) ≡ Ok a → IsAuthorityInRange a
kinds_range true is_limit s fault a e = end_range s a e
kinds_range false true s fault a e = limit_range s a e
kinds_range false false s fault a e = cc

-- so is an authority of either kind
authority_range : (members : Members) (a : Authority) → authority_in members ≡ Ok a → IsAuthorityInRange a
unfolding authority_in
authority_range members a e =
    let s = section_of sections.Authority 0 members in
    let kind = from_first (required as_str s keys.authority_kind) _ a e in
    kinds_range (bytes_eq kind.0 (codes "end")) (bytes_eq kind.0 (codes "limit")) s _ a kind.2

-- ---- the whole

-- data of which no rule is broken
pub record AreAccepted (d : TrainAndTrack) (a : Authority) : Type 0 where
  pub train : train_fault (length d.train.bands) d.train ≡ None
  pub national : national_fault d.national ≡ None
  pub track : track_fault d.track ≡ None
  pub authority : IsAuthorityInRange a

-- data that were read break no rule
pub accepted : (members : Members) (d : TrainAndTrack) (a : Authority) → data_of members ≡ Ok (d, a) → AreAccepted d a
unfolding data_of
accepted members d a e =
    let root = from_first (root_in members) _ (d, a) e in
    let train = from_first (train_in root.0.version root.0.train) _ (d, a) root.2 in
    let national = from_first (national_in root.0.version root.0.national) _ (d, a) train.2 in
    let track = from_first (track_in root.0.version root.0.track) _ (d, a) national.2 in
    let authority = from_first (authority_in root.0.authority) _ (d, a) track.2 in
    let of_train = from_rule data_faults.Train (train_fault (length train.0.bands) train.0) train.0 _ (d, a)
    authority.2 in
    let of_national = from_rule data_faults.National (national_fault national.0) national.0 _ (d, a) of_train.1 in
    let of_track = from_rule data_faults.Track (track_fault track.0) track.0 _ (d, a) of_national.1 in
    let read : TrainAndTrack × Authority =
    (record { train = train.0; national = national.0; track = track.0 }, authority.0) in
    subst (λ (both : TrainAndTrack × Authority). AreAccepted both.0 both.1)
    (same_Ok read (d, a) _ refl of_track.1) (record {
      train = of_train.0;
      national = of_national.0;
      track = of_track.0;
      authority = authority_range root.0.authority authority.0 authority.1;
    })
