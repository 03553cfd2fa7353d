-- What is due after the data part is what the records make due; before it ends, nothing is.
use Rattle.std.proofs.Common.{◌≡◌, ◌∙◌, ◌≤◌, sym, ap, subst, refl, ℕ, List, [], ◌∷◌, ◌++◌, append-nil, append_assoc}
use Rattle.std.proofs.Common.{Option, Some, None, true, length, take, drop, inl, inr, arith}
use Rattle.std.proofs.Common.{◌-◌, length-append, length-drop}
use Rattle.std.proofs.lemmas.List.{drop-append-le, take-append-le, take_all}
use Rattle.std.proofs.Common.{false, ◌+◌}
use Rattle.std.proofs.lemmas.Bool.{MatchBool-at_false, MatchBool-at_true, cases_Bool}
use Rattle.std.specs.List.{AllByRecursion}
use Rattle.sdm_io.specs.Causes.{Rose}
use Rattle.sdm_live_data.specs.declared.data_parts.Division.{Division}
use Rattle.sdm_live_data.specs.Divisions.{IsDivision}
use Rattle.sdm_rules.specs.Supervision.{Supervision}
use Rattle.sdm_report.specs.declared.outcome.InputFault.TheVariants as faults
use Rattle.sdm_report.specs.declared.outcome.Outcome.{Outcome}
use Rattle.sdm_report.specs.declared.outcome.Outcome.TheVariants as outcomes
use Rattle.sdm_data.specs.Division.{divide}
use Rattle.sdm_opening.specs.Openings.{IsOpeningOf}
use Rattle.sdm_run.specs.RunParts.{IsRefusedBy}
use Rattle.sdm_live.specs.declared.live.Ended.{Ended}
use Rattle.sdm_live.specs.declared.live.Ended.TheVariants as ends
use Rattle.sdm_live.specs.Answers.{IsCut, IsLiveAnswer, IsWhole}
use Rattle.sdm_live.specs.Exchanges.{Along, History, IsAnswered, IsPrompt, asked_at, came, sent}
use Rattle.sdm_live.specs.Moments.{due_after, whole_after}
use Rattle.sdm_live.specs.Taken.{Begins}
use Rattle.sdm_live.proofs.Along.{along_map, along_then}
use Rattle.sdm_live_data.specs.Divisions.{HasNoRecords}
use Rattle.sdm_live_data.specs.Waiting.{IsGatherEnd, IsGathered, IsWaiting, IsWaitingPrompt}
use Rattle.sdm_live_run.specs.Live.{IsAnsweredLive, IsCutLive, IsDue, IsDueAfter, IsLiveEnd, IsPromptLive, IsRefusalAfter}
use Rattle.sdm_live_records.specs.Live.{LiveState, live_rules}
use Rattle.sdm_live_run.specs.Live.{IsWholeAfter, IsWholeLive, IsWholeText, begun, due_of, whole_of}
use Rattle.sdm_live_run.specs.Parts.{IsDataRead, due_on, outcome_of, whole_on}

-- of no bytes nothing is told
whole_of_nothing : (s : Supervision) → whole_of s [] ≡ []
unfolding whole_of
whole_of_nothing s = refl

-- ---- while the data part is read

nothing_due : (bytes : List ℕ) (o : Option (ℕ × ℕ)) → divide bytes ≡ o → HasNoRecords bytes → IsDueAfter bytes [] o
nothing_due bytes None is none = refl
nothing_due bytes (Some x) is none = inl (none x.0 x.1 is, refl)

pub waiting_live : (h k : History) → IsWaiting h k → IsAnsweredLive h k
waiting_live h k w = record {
  bytes = w.bytes;
  text = [];
  came_is = w.came_is;
  due = nothing_due w.bytes (divide w.bytes) refl w.no_records;
  sent_is = w.sent_is ∙ sym (append-nil (sent h));
  given_on = w.given_on;
}

all_live : (h : History) (asks : List History) → AllByRecursion (IsWaiting h) asks → AllByRecursion (IsAnsweredLive h) asks
all_live h [] all = tt
all_live h (k ∷ ks) all = (waiting_live h k all.0, all_live h ks all.1)

pub waiting_prompt : (h k : History) → IsWaitingPrompt h k → IsPromptLive h k
waiting_prompt h k p = record { asks = p.asks; asks_are = p.asks_are; answered = all_live h p.asks p.waited }

-- ---- the records after it

module _ (s : Supervision) (bytes : List ℕ) (d r : ℕ) (order : d ≤ r) (within : r ≤ length bytes)
    (divides : (more : List ℕ) → divide (bytes ++ more) ≡ Some (d, r)) (opens : IsOpeningOf (take d bytes) s) where
  rest : List ℕ
  rest = drop r bytes

  opens_still : (more : List ℕ) → IsOpeningOf (take d (bytes ++ more)) s
  opens_still more =
      let O : List ℕ → Type 0 = λ xs. IsOpeningOf xs s in
      subst O (sym (take-append-le d bytes more (omega (arith, order, within)))) opens

  rest_of : (more : List ℕ) → drop r (bytes ++ more) ≡ drop r bytes ++ more
  rest_of more = drop-append-le r bytes more within

  due_is : (more : List ℕ) → IsDue (bytes ++ more) (due_on s (drop r bytes) more)
  due_is more =
      let D : Option (ℕ × ℕ) → Type 0 = λ o.
      IsDueAfter (bytes ++ more) (due_on s (drop r bytes) more) o in
      subst D (sym (divides more))
      (inr (s, opens_still more, ap (due_of s) (sym (rest_of more))))

  whole_is : (more : List ℕ) → IsWholeText (bytes ++ more) (whole_on s (drop r bytes) more)
  whole_is more =
      let D : Option (ℕ × ℕ) → Type 0 = λ o.
      IsWholeAfter (bytes ++ more) (whole_on s (drop r bytes) more) o in
      subst D (sym (divides more))
      (s, opens_still more, ap (whole_of s) (sym (rest_of more)))

  module _ (h k l : History) (gathered : IsGathered bytes h k) where
    came_all : (more : List ℕ) → came l ≡ came k ++ more → came l ≡ came h ++ (bytes ++ more)
    came_all more is =
        is ∙ (ap (λ xs. xs ++ more) gathered.came_is ∙ append_assoc (came h) bytes more)

    pub answered_live : IsAnswered (due_on s (drop r bytes)) k l → IsAnsweredLive h l
    answered_live a = record {
      bytes = bytes ++ a.bytes;
      text = due_on s (drop r bytes) a.bytes;
      came_is = came_all a.bytes a.came_is;
      due = due_is a.bytes;
      sent_is = a.sent_is ∙ ap (λ xs. xs ++ due_on s (drop r bytes) a.bytes) gathered.sent_is;
      given_on = a.given_on;
    }

    pub whole_live : IsWhole (due_on s (drop r bytes))
        (whole_on s (drop r bytes)) k l → IsWholeLive h l
    whole_live a = record {
      bytes = bytes ++ a.bytes;
      text = whole_on s (drop r bytes) a.bytes;
      came_is = came_all a.bytes a.came_is;
      whole = whole_is a.bytes;
      sent_is = a.sent_is ∙ ap (λ xs. xs ++ whole_on s (drop r bytes) a.bytes) gathered.sent_is;
      given_on = a.given_on;
    }

    pub cut_live : IsCut (due_on s (drop r bytes))
        (whole_on s (drop r bytes)) k l → IsCutLive h l
    cut_live a =
        let text = whole_on s (drop r bytes) a.bytes in
        let B : List ℕ → Type 0 = λ xs. Begins (sent l) (xs ++ text) in
        record {
          bytes = bytes ++ a.bytes;
          text = text;
          came_is = came_all a.bytes a.came_is;
          whole = whole_is a.bytes;
          begins = subst B gathered.sent_is a.begins;
        }

  all_on : (h k : History) → IsGathered bytes h k → (asks before : List History) →
      AllByRecursion (IsAnswered (due_on s (drop r bytes)) k) asks →
      AllByRecursion (IsAnsweredLive h) before → AllByRecursion (IsAnsweredLive h) (asks ++ before)
  all_on h k gathered [] before all more = more
  all_on h k gathered (l ∷ ls) before all more =
      (answered_live h k l gathered all.0, all_on h k gathered ls before all.1 more)

  pub prompt_live : (h k l : History) → IsGathered bytes h k →
      IsPrompt (due_on s (drop r bytes)) k l → IsPromptLive h l
  prompt_live h k l gathered p =
      let first = waiting_prompt h k gathered.prompt in
      record {
        asks = p.asks ++ first.asks;
        asks_are = p.asks_are ∙ (ap (λ xs. p.asks ++ xs) first.asks_are
            ∙ sym (append_assoc p.asks first.asks (asked_at h)));
        answered = all_on h k gathered p.asks first.asks p.answered first.answered;
      }

-- ---- the ends

-- what came before any data were read
pub gather_end : (outcome : Outcome) (h k : History) → IsGatherEnd outcome h k → IsLiveEnd h outcome k
gather_end outcomes.Done h k e = absurd e
gather_end outcomes.Usage h k e = absurd e
gather_end outcomes.ReadFault h k e = waiting_live h k e
gather_end outcomes.WriteFault h k e = absurd e
gather_end outcomes.TooLong h k e =
    inl (record { bytes = e.bytes; came_is = e.came_is; long = e.holds; sent_is = e.sent_is })
gather_end (outcomes.BadData faults.NoSplit) h k e =
    let A : Option (ℕ × ℕ) → Type 0 = λ o. IsRefusalAfter e.bytes (outcomes.BadData faults.NoSplit) o in
    record { bytes = e.bytes; came_is = e.came_is; refused = subst A (sym e.holds) refl; sent_is = e.sent_is }
gather_end (outcomes.BadData faults.Toml) h k e = absurd e
gather_end (outcomes.BadData (faults.Data fault)) h k e = absurd e
gather_end (outcomes.Refused fault) h k e = absurd e
gather_end (outcomes.BadEvent number cause) h k e = absurd e
gather_end outcomes.Memory h k e = e
gather_end (outcomes.Undrivable cause) h k e = absurd e

module _ (bytes : List ℕ) (d r : ℕ) (divided : divide bytes ≡ Some (d, r)) where
  refusal : (outcome : Outcome) → IsRefusedBy (take d bytes) outcome → IsRefusalAfter bytes outcome (divide bytes)
  refusal outcome refused =
      let A : Option (ℕ × ℕ) → Type 0 = λ o. IsRefusalAfter bytes outcome o in
      subst A (sym divided) refused

  -- the data open nothing
  pub refused_end : (outcome : Outcome) → IsRefusedBy (take d bytes) outcome → (h k : History) →
      IsGathered bytes h k → IsLiveEnd h outcome k
  refused_end outcomes.Done e h k g = absurd e
  refused_end outcomes.Usage e h k g = absurd e
  refused_end outcomes.ReadFault e h k g = absurd e
  refused_end outcomes.WriteFault e h k g = absurd e
  refused_end outcomes.TooLong e h k g = absurd e
  refused_end (outcomes.BadData fault) e h k g = record {
    bytes = bytes;
    came_is = g.came_is;
    refused = refusal (outcomes.BadData fault) e;
    sent_is = g.sent_is;
  }
  refused_end (outcomes.Refused fault) e h k g = record {
    bytes = bytes;
    came_is = g.came_is;
    refused = refusal (outcomes.Refused fault) e;
    sent_is = g.sent_is;
  }
  refused_end (outcomes.BadEvent number cause) e h k g = absurd e
  refused_end outcomes.Memory e h k g = g.sent_is
  refused_end (outcomes.Undrivable cause) e h k g = absurd e

  -- the input ends with the dividing line
  pub nothing_answered : (s : Supervision) → IsOpeningOf (take d bytes) s → HasNoRecords bytes → (h k : History) →
      IsGathered bytes h k → IsWholeLive h k
  nothing_answered s opens none h k g =
      let A : Option (ℕ × ℕ) → Type 0 = λ o. IsWholeAfter bytes [] o in
      record {
        bytes = bytes;
        text = [];
        came_is = g.came_is;
        whole = subst A (sym divided)
            (s, opens, sym (whole_of_nothing s) ∙ ap (whole_of s) (sym (none d r divided)));
        sent_is = g.sent_is ∙ sym (append-nil (sent h));
        given_on = g.given_on;
      }

-- the division now, of one that stays
pub divided_now : (bytes : List ℕ) (d r : ℕ) → ((more : List ℕ) → divide (bytes ++ more) ≡ Some (d, r)) →
    divide bytes ≡ Some (d, r)
divided_now bytes d r divides = ap divide (sym (append-nil bytes)) ∙ divides []

-- ---- the division that was gathered

pub lasting : (bytes : List ℕ) (d : Division) → IsDivision bytes d → d.is_end ≡ false → (more : List ℕ) →
    divide (bytes ++ more) ≡ Some (d.data_end, d.records_start)
lasting bytes d is not = MatchBool-at_false _ _ not is.divided

pub at_last : (bytes : List ℕ) (d : Division) → IsDivision bytes d → d.is_end ≡ true → HasNoRecords bytes
at_last bytes d is end = (MatchBool-at_true _ _ end is.divided).1

pub now_divided : (bytes : List ℕ) (d : Division) → IsDivision bytes d →
    divide bytes ≡ Some (d.data_end, d.records_start)
now_divided bytes d is = elim (cases_Bool d.is_end) [
  | inl end ↦ (MatchBool-at_true _ _ end is.divided).0
  | inr not ↦ divided_now bytes d.data_end d.records_start (lasting bytes d is not)
]

-- ---- the data part

pub waiting_along : (a b : Option History) → Along a b IsWaiting → Along a b IsAnsweredLive
waiting_along a b p = along_map a b IsWaiting IsAnsweredLive waiting_live p

pub waiting_prompt_along : (a b : Option History) → Along a b IsWaitingPrompt → Along a b IsPromptLive
waiting_prompt_along a b p = along_map a b IsWaitingPrompt IsPromptLive waiting_prompt p

pub gather_end_along : (a b : Option History) (outcome : Outcome) → Along a b (IsGatherEnd outcome) →
    Along a b (λ h k. IsLiveEnd h outcome k)
gather_end_along a b outcome p =
    along_map a b (IsGatherEnd outcome) (λ h k. IsLiveEnd h outcome k) (gather_end outcome) p

pub refused_along : (a b : Option History) (bytes given : List ℕ) (d : Division) (outcome : Outcome) →
    IsDivision bytes d → given ≡ bytes → IsRefusedBy (take d.data_end given) outcome → Along a b (IsGathered bytes) →
    Along a b (λ h k. IsLiveEnd h outcome k)
refused_along a b bytes given d outcome division is refused p =
    let R : List ℕ → Type 0 = λ xs. IsRefusedBy (take d.data_end xs) outcome in
    along_map a b (IsGathered bytes) (λ h k. IsLiveEnd h outcome k)
    (refused_end bytes d.data_end d.records_start (now_divided bytes d division) outcome (subst R is refused)) p

-- ---- the records

module _ (bytes : List ℕ) (s : Supervision) (d : Division) (read : IsDataRead bytes s d) where
  pub end_along : (a b : Option History) → d.is_end ≡ true → Along a b (IsGathered bytes) →
      Along a b (λ h k. IsLiveEnd h outcomes.Done k)
  end_along a b end p =
      along_map a b (IsGathered bytes) (λ h k. IsLiveEnd h outcomes.Done k)
      (nothing_answered bytes d.data_end d.records_start (now_divided bytes d read.division) s read.opens
      (at_last bytes d read.division end)) p

  module _ (not : d.is_end ≡ false) (given : List ℕ) (is : given ≡ drop d.records_start bytes) where
    pub answered_along : (a b c : Option History) → Along a b (IsGathered bytes) →
        Along b c (IsAnswered (due_on s given)) → Along a c IsAnsweredLive
    answered_along a b c p q =
        let A : List ℕ → Type 0 = λ xs. Along b c (IsAnswered (due_on s xs)) in
        along_then a b c (IsGathered bytes) (IsAnswered (due_on s (drop d.records_start bytes))) IsAnsweredLive
        (answered_live s bytes d.data_end d.records_start read.division.order read.division.within
        (lasting bytes d read.division not) read.opens) p (subst A is q)

    pub prompt_along : (a b c : Option History) → Along a b (IsGathered bytes) →
        Along b c (IsPrompt (due_on s given)) → Along a c IsPromptLive
    prompt_along a b c p q =
        let A : List ℕ → Type 0 = λ xs. Along b c (IsPrompt (due_on s xs)) in
        along_then a b c (IsGathered bytes) (IsPrompt (due_on s (drop d.records_start bytes))) IsPromptLive
        (prompt_live s bytes d.data_end d.records_start read.division.order read.division.within
        (lasting bytes d read.division not) read.opens) p (subst A is q)

    abbrev IsEndOn : List ℕ → Ended → History → History → Type 0
    IsEndOn xs ended h k = IsLiveAnswer (due_on s xs) (whole_on s xs) h ended k

    ended_live : (ended : Ended) (h k l : History) → IsGathered bytes h k →
        IsEndOn (drop d.records_start bytes) ended k l → IsLiveEnd h (outcome_of ended) l
    ended_live ends.Done h k l p q =
        whole_live s bytes d.data_end d.records_start read.division.order read.division.within
        (lasting bytes d read.division not) read.opens h k l p q
    ended_live ends.ReadFault h k l p q =
        answered_live s bytes d.data_end d.records_start read.division.order read.division.within
        (lasting bytes d read.division not) read.opens h k l p q
    ended_live ends.WriteFault h k l p q =
        cut_live s bytes d.data_end d.records_start read.division.order read.division.within
        (lasting bytes d read.division not) read.opens h k l p q
    ended_live ends.Endless h k l p q =
        let before = length-append p.prompt.asks (asked_at h) in
        let same = ap length p.prompt.asks_are in
        inr (record {
          answered = answered_live s bytes d.data_end d.records_start read.division.order read.division.within
              (lasting bytes d read.division not) read.opens h k l p q.answered;
          asks = omega (arith, q.asks, before, same);
        })

    pub ended_along : (a b c : Option History) (ended : Ended) → Along a b (IsGathered bytes) →
        Along b c (IsEndOn given ended) → Along a c (λ h l. IsLiveEnd h (outcome_of ended) l)
    ended_along a b c ended p q =
        let A : List ℕ → Type 0 = λ xs. Along b c (IsEndOn xs ended) in
        along_then a b c (IsGathered bytes) (IsEndOn (drop d.records_start bytes) ended)
        (λ h l. IsLiveEnd h (outcome_of ended) l) (ended_live ended) p (subst A is q)

-- the bytes from a place on, of bytes that are given as they are
pub rest_is : (given bytes : List ℕ) (at : ℕ) → given ≡ bytes → take (length given - at) (drop at given) ≡ drop at bytes
rest_is given bytes at is =
    take_all (length given - at) (drop at given) (omega (arith, length-drop at given)) ∙ ap (λ xs. drop at xs) is

-- ---- the loop over the records, from the state in which nothing was told yet

pub served_prompt : (a b : Option History) (s : Supervision) (given : List ℕ) (first : LiveState) → first ≡ begun s →
    Along a b (IsPrompt (due_after live_rules first given)) → Along a b (IsPrompt (due_on s given))
unfolding due_of
served_prompt a b s given first is p =
    let A : LiveState → Type 0 = λ f. Along a b (IsPrompt (due_after live_rules f given)) in
    subst A is p

pub served_ask : (a b : Option History) (s : Supervision) (given : List ℕ) (first : LiveState) → first ≡ begun s →
    Along a b (IsAnswered (due_after live_rules first given)) → Along a b (IsAnswered (due_on s given))
unfolding due_of
served_ask a b s given first is p =
    let A : LiveState → Type 0 = λ f. Along a b (IsAnswered (due_after live_rules f given)) in
    subst A is p

pub served_answer : (a b : Option History) (s : Supervision) (given : List ℕ) (first : LiveState) (ended : Ended) →
    first ≡ begun s →
    Along a b (λ h k. IsLiveAnswer (due_after live_rules first given) (whole_after live_rules first given) h ended k) →
    Along a b (λ h k. IsLiveAnswer (due_on s given) (whole_on s given) h ended k)
unfolding due_of whole_of
served_answer a b s given first ended is p =
    let A : LiveState → Type 0 = λ f.
    Along a b (λ h k. IsLiveAnswer (due_after live_rules f given) (whole_after live_rules f given) h ended k) in
    subst A is p

-- ---- faults

-- one of two counts rose, and the other never fell
pub rose_beside : (before now other after : ℕ) → Rose before now → other ≤ after → Rose (before + other) (now + after)
rose_beside before now other after rose later = omega (arith, rose, later)
