-- The loop, from one moment to the next.
use Rattle.std.proofs.Common.{◌≡◌, ◌∙◌, sym, ap, subst, refl, ℕ, suc, ◌+◌, List, [], ◌∷◌, ◌++◌, append-nil, append_assoc}
use Rattle.std.proofs.Common.{length, true, false, arith}
use Rattle.sdm_live.specs.Answers.{IsCut, IsWhole}
use Rattle.sdm_live.specs.Exchanges.{Gave, Gave_fault, Given_on, Held_fault, History, IsAnswered, IsPrompt, came, sent}
use Rattle.sdm_live.specs.Exchanges.{asked_at, is_given_on}
use Rattle.sdm_live.specs.Lines.{Coming}
use Rattle.sdm_live.specs.Moments.{due_after, whole_after}
use Rattle.sdm_live.specs.Progress.{Progress, Rules, start, whole, with_bytes, with_end}
use Rattle.sdm_live.specs.Taken.{Begins, DidNotAsk, IsEnded, IsEndedPart, IsPieceAnswered, IsRestAnswered, IsTaken}
use Rattle.sdm_live.specs.Taken.{IsTakenPart, standing}
use Rattle.sdm_live.proofs.Taking.{append, begins_self, begins_then, due_after_text, end_grows}
use Rattle.sdm_live.proofs.Taking.{whole_after_text}

module _ {S : Type 0} (rules : Rules S) where
  -- ---- a piece, and the flush after it

  pub piece_answered : (state after : S) (line left : Coming) (bytes : List ℕ) (h k l : History) →
      IsTaken rules state line bytes after left h k → l ≡ Given_on ∷ k →
      IsPieceAnswered rules state line bytes after left h l
  piece_answered state after line left bytes h k l taken is =
      let A : History → Type 0 = λ l. IsPieceAnswered rules state line bytes after left h l in
      subst A (sym is) (record {
        taken = record {
          leads = taken.leads;
          quiet = record { came_is = taken.quiet.came_is; asked_is = taken.quiet.asked_is };
        };
        given_on = refl;
      })

  pub rest_answered : (state after : S) (line left : Coming) (h k l : History) →
      IsEnded rules state line after left h k → l ≡ Given_on ∷ k → IsRestAnswered rules state line after left h l
  rest_answered state after line left h k l taken is =
      let A : History → Type 0 = λ l. IsRestAnswered rules state line after left h l in
      subst A (sym is) (record {
        taken = record {
          leads = taken.leads;
          quiet = record { came_is = taken.quiet.came_is; asked_is = taken.quiet.asked_is };
        };
        given_on = refl;
      })

  pub piece_held : (state after : S) (line left : Coming) (bytes : List ℕ) (h k l : History) →
      IsTaken rules state line bytes after left h k → l ≡ Held_fault ∷ k → IsTakenPart rules state line bytes h l
  piece_held state after line left bytes h k l taken is =
      let A : History → Type 0 = λ l. IsTakenPart rules state line bytes h l in
      let B : Progress S → Type 0 = λ p. Begins (sent k) p.text in
      subst A (sym is) (record {
        begins = subst B (sym taken.leads) (begins_self (sent k));
        quiet = record { came_is = taken.quiet.came_is; asked_is = taken.quiet.asked_is };
      })

  pub rest_held : (state after : S) (line left : Coming) (h k l : History) →
      IsEnded rules state line after left h k → l ≡ Held_fault ∷ k → IsEndedPart rules state line h l
  rest_held state after line left h k l taken is =
      let A : History → Type 0 = λ l. IsEndedPart rules state line h l in
      let B : Progress S → Type 0 = λ p. Begins (sent k) p.text in
      subst A (sym is) (record {
        begins = subst B (sym taken.leads) (begins_self (sent k));
        quiet = record { came_is = taken.quiet.came_is; asked_is = taken.quiet.asked_is };
      })

module _ {S : Type 0} (rules : Rules S) (first : S) (given : List ℕ) where
  -- the bytes given and those that came lead to this state and line, and to the text that was handed over, which is
  -- with the peer
  pub record IsAnsweredSoFar (state : S) (line : Coming) (before now : History) : Type 0 where
    pub bytes : List ℕ
    pub came_is : came now ≡ came before ++ bytes
    pub leads : with_bytes rules (start rules first (sent before)) (given ++ bytes) ≡ standing state line (sent now)
    pub prompt : IsPrompt (due_after rules first given) before now
    pub given_on : is_given_on now ≡ true

  -- these bytes came, and were not yet taken
  pub record IsAskedSoFar (state : S) (line : Coming) (bytes : List ℕ) (before now : History) : Type 0 where
    pub last : History
    pub so_far : IsAnsweredSoFar state line before last
    pub is : now ≡ Gave bytes ∷ last

  abbrev nothing : Coming
  nothing = record { bytes = []; is_over = false }

  abbrev led_to : List ℕ → List ℕ → Progress S
  led_to text bytes = with_bytes rules (start rules first text) bytes

  -- ---- the first piece

  quiet_prompt : (h k : History) → DidNotAsk h k → IsPrompt (due_after rules first given) h k
  quiet_prompt h k quiet = record { asks = []; asks_are = quiet.asked_is; answered = tt }

  pub begun : (after : S) (left : Coming) (h k : History) → IsPieceAnswered rules first nothing given after left h k →
      IsAnsweredSoFar after left h k
  begun after left h k piece = record {
    bytes = [];
    came_is = piece.taken.quiet.came_is ∙ sym (append-nil (came h));
    leads = ap (led_to (sent h)) (append-nil given) ∙ piece.taken.leads;
    prompt = quiet_prompt h k piece.taken.quiet;
    given_on = piece.given_on;
  }

  pub first_cut_prompt : (h k : History) → IsTakenPart rules first nothing given h k →
      IsPrompt (due_after rules first given) h k
  first_cut_prompt h k part = quiet_prompt h k part.quiet

  -- a beginning of what is due begins the whole text
  begins_whole : (text front bytes : List ℕ) → Begins front (led_to text bytes).text →
      Begins front (text ++ whole rules first bytes)
  begins_whole text front bytes begins =
      let p = led_to text bytes in
      let B : List ℕ → Type 0 = λ t. Begins front t in
      subst B (whole_after_text rules first text bytes)
      (begins_then front p.text (with_end rules p).text begins (end_grows rules p.line p))

  pub first_cut : (h k : History) → IsTakenPart rules first nothing given h k →
      IsCut (due_after rules first given) (whole_after rules first given) h k
  first_cut h k part =
      let B : List ℕ → Type 0 = λ bytes. Begins (sent k) (led_to (sent h) bytes).text in
      record {
        bytes = [];
        came_is = part.quiet.came_is ∙ sym (append-nil (came h));
        begins = begins_whole (sent h) (sent k) (given ++ []) (subst B (sym (append-nil given)) part.begins);
      }

  -- the same of a line in which nothing has come
  pub begun_of : (after : S) (line left : Coming) (h k : History) → line ≡ nothing →
      IsPieceAnswered rules first line given after left h k → IsAnsweredSoFar after left h k
  begun_of after line left h k is piece =
      let A : Coming → Type 0 = λ l. IsPieceAnswered rules first l given after left h k in
      begun after left h k (subst A is piece)

  pub first_cut_of : (line : Coming) (h k : History) → line ≡ nothing → IsTakenPart rules first line given h k →
      IsCut (due_after rules first given) (whole_after rules first given) h k
  first_cut_of line h k is part =
      let A : Coming → Type 0 = λ l. IsTakenPart rules first l given h k in
      first_cut h k (subst A is part)

  -- ---- at each moment at which it asks

  pub answered_now : (state : S) (line : Coming) (h k : History) → IsAnsweredSoFar state line h k →
      IsAnswered (due_after rules first given) h k
  answered_now state line h k so_far = record {
    bytes = so_far.bytes;
    came_is = so_far.came_is;
    sent_is = sym (ap (λ p. p.text) so_far.leads) ∙ due_after_text rules first (sent h) (given ++ so_far.bytes);
    given_on = so_far.given_on;
  }

  -- it asked, and did not ask again
  asked_prompt : (state : S) (line : Coming) (h k m : History) → IsAnsweredSoFar state line h k →
      asked_at m ≡ k ∷ asked_at k → IsPrompt (due_after rules first given) h m
  asked_prompt state line h k m so_far is = record {
    asks = k ∷ so_far.prompt.asks;
    asks_are = is ∙ ap (λ xs. k ∷ xs) so_far.prompt.asks_are;
    answered = (answered_now state line h k so_far, so_far.prompt.answered);
  }

  pub fault_prompt : (state : S) (line : Coming) (h k l : History) → IsAnsweredSoFar state line h k →
      l ≡ Gave_fault ∷ k → IsPrompt (due_after rules first given) h l
  fault_prompt state line h k l so_far is = asked_prompt state line h k l so_far (ap asked_at is)

  pub fault_answered : (state : S) (line : Coming) (h k l : History) →
      IsAnsweredSoFar state line h k → l ≡ Gave_fault ∷ k →
      IsAnswered (due_after rules first given) h l
  fault_answered state line h k l so_far is =
      let A : History → Type 0 = λ l. IsAnswered (due_after rules first given) h l in
      let now = answered_now state line h k so_far in
      subst A (sym is) (record {
        bytes = now.bytes;
        came_is = now.came_is;
        sent_is = now.sent_is;
        given_on = now.given_on;
      })

  pub asked : (state : S) (line : Coming) (bytes : List ℕ) (h k l : History) →
      IsAnsweredSoFar state line h k → l ≡ Gave bytes ∷ k →
      IsAskedSoFar state line bytes h l
  asked state line bytes h k l so_far is = record { last = k; so_far = so_far; is = is }

  module _ (state : S) (line : Coming) (bytes : List ℕ) (h l m : History)
      (so_far : IsAskedSoFar state line bytes h l) where
    abbrev all : List ℕ
    all = so_far.so_far.bytes ++ bytes

    pub quiet_since : DidNotAsk l m → IsPrompt (due_after rules first given) h m
    quiet_since quiet =
        asked_prompt state line h so_far.last m so_far.so_far (quiet.asked_is ∙ ap asked_at so_far.is)

    came_all : came m ≡ came l → came m ≡ came h ++ all
    came_all quiet =
        quiet ∙ (ap came so_far.is
        ∙ (ap (λ xs. xs ++ bytes) so_far.so_far.came_is ∙ append_assoc (came h) so_far.so_far.bytes bytes))

    leads_on : led_to (sent h) (given ++ all) ≡ with_bytes rules (standing state line (sent l)) bytes
    leads_on =
        ap (led_to (sent h)) (sym (append_assoc given so_far.so_far.bytes bytes))
        ∙ (append rules (given ++ so_far.so_far.bytes) bytes (start rules first (sent h))
        ∙ (ap (λ p. with_bytes rules p bytes) so_far.so_far.leads
        ∙ ap (λ t. with_bytes rules (standing state line t) bytes) (sym (ap sent so_far.is))))

    pub next_so_far : (after : S) (left : Coming) → IsPieceAnswered rules state line bytes after left l m →
        IsAnsweredSoFar after left h m
    next_so_far after left piece = record {
      bytes = all;
      came_is = came_all piece.taken.quiet.came_is;
      leads = leads_on ∙ piece.taken.leads;
      prompt = quiet_since piece.taken.quiet;
      given_on = piece.given_on;
    }

    pub piece_cut : IsTakenPart rules state line bytes l m →
        IsCut (due_after rules first given) (whole_after rules first given) h m
    piece_cut part =
        let B : Progress S → Type 0 = λ p. Begins (sent m) p.text in
        record {
          bytes = all;
          came_is = came_all part.quiet.came_is;
          begins = begins_whole (sent h) (sent m) (given ++ all) (subst B (sym leads_on) part.begins);
        }

    -- ---- at the end of the input

    leads_end : bytes ≡ [] → with_end rules (led_to (sent h) (given ++ all)) ≡ with_end rules (standing state line (sent l))
    leads_end none =
        ap (λ p. with_end rules p)
        (leads_on ∙ ap (λ xs. with_bytes rules (standing state line (sent l)) xs) none)

    pub rest_whole : (after : S) (left : Coming) → bytes ≡ [] → IsRestAnswered rules state line after left l m →
        IsWhole (due_after rules first given) (whole_after rules first given) h m
    rest_whole after left none rest = record {
      bytes = all;
      came_is = came_all rest.taken.quiet.came_is;
      sent_is = sym (ap (λ p. p.text) (leads_end none ∙ rest.taken.leads))
          ∙ whole_after_text rules first (sent h) (given ++ all);
      given_on = rest.given_on;
    }

    pub rest_cut : bytes ≡ [] → IsEndedPart rules state line l m →
        IsCut (due_after rules first given) (whole_after rules first given) h m
    rest_cut none part =
        let B : Progress S → Type 0 = λ p. Begins (sent m) p.text in
        let C : List ℕ → Type 0 = λ t. Begins (sent m) t in
        record {
          bytes = all;
          came_is = came_all part.quiet.came_is;
          begins = subst C (whole_after_text rules first (sent h) (given ++ all))
              (subst B (sym (leads_end none)) part.begins);
        }

-- ---- how often it asked

-- it asked so often
abbrev pub HasAsked : ℕ → History → History → Type 0
HasAsked n before now = length (asked_at now) ≡ n + length (asked_at before)

pub asked_never : (h k : History) → DidNotAsk h k → HasAsked 0 h k
asked_never h k quiet = let same = ap length quiet.asked_is in omega (arith, same)

pub asked_again : (n : ℕ) (bytes : List ℕ) (h k l : History) → HasAsked n h k → l ≡ Gave bytes ∷ k →
    HasAsked (n + 1) h l
asked_again n bytes h k l so_far is =
    let one : length (asked_at l) ≡ suc (length (asked_at k)) = ap (λ l. length (asked_at l)) is in
    omega (arith, one, so_far)

pub asked_still : (n : ℕ) (h k l : History) → HasAsked n h k → DidNotAsk k l → HasAsked n h l
asked_still n h k l so_far quiet = ap length quiet.asked_is ∙ so_far
