-- What a read of csv's reader takes from the records that it has left.
use Rattle.std.proofs.Common.{◌≡◌, ℕ, Bool, true, false, List, [], ◌∷◌, Option, Some, None, Bor, Result, Ok, refl, sym}
use Rattle.std.proofs.Common.{◌∙◌, inl}
use Rattle.csv.specs.Machine.{Read, next_record}
use Rattle.csv.specs.Reading.{NextIs, ReadRecord, ReadsNext, Ready, default_config, pending_of, reader_trim, took_first}
use Rattle.csv.specs.declared.parser.State.{State}
use Rattle.csv.specs.declared.reader.Reader.{Reader}
use Rattle.csv.specs.declared.reader.Trim.TheVariants as trim
use Rattle.sdm_num.specs.declared.memory.NoMemory.{NoMemory}
use Rattle.sdm_events.specs.Journey.{Record}
use Rattle.sdm_events.specs.Left.{IsBetweenRecords, bytes_left, left_after}
use Rattle.sdm_events.proofs.Rest.{next_takes_a_byte, rest_none, rest_some}

-- the bytes behind a reference
abbrev now_of : Bor (List ℕ) → Option (List ℕ)
now_of s = Some s.now

-- a record that was found is the next one
next_some : (o : Option Read) (f : Record) (t : State) (more : List ℕ) → NextIs o true f t more → o ≡ Some (f, t, more)
next_some None f t more h = cc h
next_some (Some p) f t more h = rw (h.1, h.2, h.3) refl

-- where none was found there is no next one
next_none : (o : Option Read) (f : Record) (t : State) (more : List ℕ) → NextIs o false f t more → o ≡ None
next_none None f t more h = refl
next_none (Some p) f t more h = cc h.0

-- a read of known bytes that found a record leaves known bytes
reads_some : (s : State) (bytes : List ℕ) (after : Option (List ℕ)) (f : Record) (t : State) →
    ReadsNext default_config s (Some bytes) after true f t
    → (more : List ℕ) × (after ≡ Some more) × (next_record default_config s [] [] bytes ≡ Some (f, t, more))
reads_some s bytes None f t h = absurd h
reads_some s bytes (Some more) f t h = (more, refl, next_some (next_record default_config s [] [] bytes) f t more h)

-- a read of known bytes that found no record: there was none
reads_none : (s : State) (bytes : List ℕ) (after : Option (List ℕ)) (f : Record) (t : State) →
    ReadsNext default_config s (Some bytes) after false f t → next_record default_config s [] [] bytes ≡ None
reads_none s bytes None f t h = absurd h
reads_none s bytes (Some more) f t h = next_none (next_record default_config s [] [] bytes) f t more h

-- ---- an answer of csv's reader, from what was left before it

-- csv's clauses on an answer of a reader that doesn't trim
abbrev Reads : Reader (Bor (List ℕ)) → Reader (Bor (List ℕ)) → Bool → Record → Type 0
Reads a b found f = reader_trim a ≡ trim.None → Ready a → ReadRecord now_of a b found f

-- csv's clause that a reader that doesn't trim has taken its first record
abbrev Counts : Reader (Bor (List ℕ)) → Reader (Bor (List ℕ)) → Type 0
Counts a b = reader_trim a ≡ trim.None → took_first b ≡ true

same_Ok : (a b : Bool) → ◌≡◌ {A = Result Bool NoMemory} (Ok a) (Ok b) → a ≡ b
same_Ok a b h = cc h

-- a record: it was the first of those left, and the reader goes on behind it
took : (a b : Reader (Bor (List ℕ))) (f : Record) → IsBetweenRecords a → ReadRecord now_of a b true f →
    took_first b ≡ true → IsBetweenRecords b × (left_after (Ok true) a ≡ f ∷ left_after (Ok true) b)
took a b f is r first =
    let g = reads_some a.state is.known.0 (pending_of (now_of b.rdr) b) f b.state (rw (is.config, is.known.1) at r.0) in
    let next = next_takes_a_byte a.state is.known.0 (f, b.state, g.0) is.between g.2 in
    let after : bytes_left b ≡ Some g.0 = rw r.1 g.1 in (
      record {
        config = r.2 ∙ is.config;
        trims = r.3 ∙ is.trims;
        ready = inl first;
        between = next.1;
        known =
            (g.0, after);
      },
      rw (is.known.1, after) (rest_some a.state is.known.0 (f, b.state, g.0) is.between g.2),
    )

-- a record that was found is the first of those left, and the reader goes on behind it
pub found_one : (a b : Reader (Bor (List ℕ))) (found : Bool) (f : Record) (left : List Record) → IsBetweenRecords a →
    left_after (Ok true) a ≡ left → Reads a b found f → Counts a b →
    ◌≡◌ {A = Result Bool NoMemory} (Ok found) (Ok true)
    → IsBetweenRecords b × (left ≡ f ∷ left_after (Ok found) b)
found_one a b found f left is before reads counts e =
    let same = same_Ok found true e in
    let t = took a b f is (rw same at reads is.trims is.ready) (counts is.trims) in
    (t.0, rw same (sym before ∙ t.1))

-- no record: none was left
pub found_none : (a b : Reader (Bor (List ℕ))) (found : Bool) (f : Record) (left : List Record) → IsBetweenRecords a →
    left_after (Ok true) a ≡ left → Reads a b found f → ◌≡◌ {A = Result Bool NoMemory} (Ok found) (Ok false) →
    (left ≡ []) × (left_after (Ok found) b ≡ [])
found_none a b found f left is before reads e =
    let same = same_Ok found false e in
    let r = rw same at reads is.trims is.ready in
    let none = reads_none a.state is.known.0 (pending_of (now_of b.rdr) b) f b.state
    (rw (is.config, is.known.1) at r.0) in
    (sym before ∙ rw is.known.1 (rest_none a.state is.known.0 none), rw same refl)
