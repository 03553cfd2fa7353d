-- Bytes that are taken: what leads to where they lead, and a text that only grows.
use Rattle.std.proofs.Common.{◌≡◌, ◌∙◌, sym, ap, subst, refl, ℕ, Result, Ok, Err, OnErr, Bool, true, false, List, []}
use Rattle.std.proofs.Common.{◌∷◌, ◌++◌, length, take, drop, append_assoc, append-nil, take-append-drop, nat_lt, ◌≤◌, arith}
use Rattle.std.proofs.lemmas.Bool.{le-ltb}
use Rattle.sdm_live.specs.Exchanges.{History, IsHanded, IsHandedPart, sent}
use Rattle.sdm_live.specs.Lines.{Coming}
use Rattle.sdm_live.specs.Progress.{Progress, Rules, byte_of, due, end_of, ends_line, longest_line, more_of, start, whole}
use Rattle.sdm_live.specs.Progress.{with_byte, with_bytes, with_end}
use Rattle.sdm_live.specs.Taken.{Begins, DidNotAsk, IsEnded, IsEndedPart, IsTaken, IsTakenPart, standing}

-- what holds anyway holds after an error
pub on_err_of : {T E P : Type 0} (r : Result T E) → P → OnErr r P
on_err_of (Ok x) p = tt
on_err_of (Err e) p = p

-- what follows from what holds after an error
pub on_err_map : {T E P Q : Type 0} (r : Result T E) → (P → Q) → OnErr r P → OnErr r Q
on_err_map (Ok x) f p = tt
on_err_map (Err e) f p = f p

-- no room is left
pub full_line : (n m : ℕ) → n ≡ m → longest_line ≤ n → nat_lt m longest_line ≡ false
full_line n m e none = le-ltb m longest_line (omega (arith, e, none))

pub quiet_then : (h k l : History) → DidNotAsk h k → DidNotAsk k l → DidNotAsk h l
quiet_then h k l p q = record { came_is = q.came_is ∙ p.came_is; asked_is = q.asked_is ∙ p.asked_is }

pub begins_self : (xs : List ℕ) → Begins xs xs
begins_self xs = ([], sym (append-nil xs))

pub begins_then : (xs ys zs : List ℕ) → Begins xs ys → Begins ys zs → Begins xs zs
begins_then xs ys zs p q = (p.0 ++ q.0, q.1 ∙ (ap (λ l. l ++ q.0) p.1 ∙ append_assoc xs p.0 q.0))

-- the same text before both
pub begins_after : (before xs ys : List ℕ) → Begins xs ys → Begins (before ++ xs) (before ++ ys)
begins_after before xs ys p = (p.0, ap (λ l. before ++ l) p.1 ∙ sym (append_assoc before xs p.0))

-- a prefix of what is appended begins it all
pub begins_part : (xs text : List ℕ) (n : ℕ) (now : List ℕ) → now ≡ xs ++ take n text → Begins now (xs ++ text)
begins_part xs text n now is = (
  drop n text,
  ap (λ t. xs ++ t) (sym (take-append-drop n text)) ∙ (sym (append_assoc xs (take n text) (drop n text))
      ∙ ap (λ l. l ++ drop n text) (sym is)),
)

module _ {S : Type 0} (rules : Rules S) where
  -- ---- the text only grows

  pub end_grows : (line : List ℕ) (p : Progress S) → Begins p.text (end_of rules line p).text
  end_grows [] p = begins_self p.text
  end_grows (b ∷ bs) p = (rules.told (rules.next p.state (b ∷ bs)), refl)

  more_grows : (over room : Bool) (p : Progress S) (b : ℕ) → Begins p.text (more_of rules over room p b).text
  more_grows true room p b = begins_self p.text
  more_grows false true p b = begins_self p.text
  more_grows false false p b = (rules.too_long, refl)

  byte_grows : (ends : Bool) (p : Progress S) (b : ℕ) → Begins p.text (byte_of rules ends p b).text
  byte_grows true p b = end_grows p.line p
  byte_grows false p b = more_grows p.is_over (nat_lt (length p.line) longest_line) p b

  pub grows : (bytes : List ℕ) (p : Progress S) → Begins p.text (with_bytes rules p bytes).text
  grows [] p = begins_self p.text
  grows (b ∷ bs) p =
      let q = with_byte rules p b in
      begins_then p.text q.text (with_bytes rules q bs).text (byte_grows (ends_line b) p b) (grows bs q)

  pub append : (xs ys : List ℕ) (p : Progress S) →
      with_bytes rules p (xs ++ ys) ≡ with_bytes rules (with_bytes rules p xs) ys
  append [] ys p = refl
  append (x ∷ xs) ys p = append xs ys (with_byte rules p x)

  -- ---- a text before changes nothing but the text

  abbrev after_text : List ℕ → Progress S → Progress S
  after_text t p = record p { text = t ++ p.text }

  end_after : (line : List ℕ) (p : Progress S) (t : List ℕ) →
      end_of rules line (after_text t p) ≡ after_text t (end_of rules line p)
  end_after [] p t = refl
  end_after (b ∷ bs) p t =
      let after = rules.next p.state (b ∷ bs) in
      ap (λ x. record { state = after; line = []; is_over = false; text = x }) (append_assoc t p.text (rules.told after))

  more_after : (over room : Bool) (p : Progress S) (b : ℕ) (t : List ℕ) →
      more_of rules over room (after_text t p) b ≡ after_text t (more_of rules over room p b)
  more_after true room p b t = refl
  more_after false true p b t = refl
  more_after false false p b t =
      ap (λ x. record { state = p.state; line = []; is_over = true; text = x }) (append_assoc t p.text rules.too_long)

  byte_after : (ends : Bool) (p : Progress S) (b : ℕ) (t : List ℕ) →
      byte_of rules ends (after_text t p) b ≡ after_text t (byte_of rules ends p b)
  byte_after true p b t = end_after p.line p t
  byte_after false p b t = more_after p.is_over (nat_lt (length p.line) longest_line) p b t

  bytes_after : (bytes : List ℕ) (p : Progress S) (t : List ℕ) →
      with_bytes rules (after_text t p) bytes ≡ after_text t (with_bytes rules p bytes)
  bytes_after [] p t = refl
  bytes_after (b ∷ bs) p t =
      ap (λ q. with_bytes rules q bs) (byte_after (ends_line b) p b t) ∙ bytes_after bs (with_byte rules p b) t

  start_after : (state : S) (t : List ℕ) (bytes : List ℕ) →
      with_bytes rules (start rules state t) bytes ≡ after_text t (with_bytes rules (start rules state []) bytes)
  start_after state t bytes =
      ap (λ x. with_bytes rules (start rules state x) bytes) (sym (append-nil t))
      ∙ bytes_after bytes (start rules state []) t

  pub due_after_text : (state : S) (t : List ℕ) (bytes : List ℕ) →
      (with_bytes rules (start rules state t) bytes).text ≡ t ++ due rules state bytes
  due_after_text state t bytes = ap (λ p. p.text) (start_after state t bytes)

  pub whole_after_text : (state : S) (t : List ℕ) (bytes : List ℕ) →
      (with_end rules (with_bytes rules (start rules state t) bytes)).text ≡ t ++ whole rules state bytes
  whole_after_text state t bytes =
      let p = with_bytes rules (start rules state []) bytes in
      ap (λ q. (with_end rules q).text) (start_after state t bytes) ∙ ap (λ q. q.text) (end_after p.line p t)

  -- ---- the end of a line

  none_ended : (state : S) (text : List ℕ) (over : Bool) (bytes : List ℕ) (h : History) → length bytes ≡ 0 →
      IsEnded rules state (record { bytes = bytes; is_over = over }) state (record { bytes = []; is_over = false }) h h
  none_ended state text over [] h e = record { leads = refl; quiet = record { came_is = refl; asked_is = refl } }
  none_ended state text over (b ∷ bs) h e = cc e

  -- an empty line is none
  pub empty_ended : (state : S) (line now : Coming) (h : History) → length line.bytes ≡ 0 →
      now ≡ record { bytes = []; is_over = false } → IsEnded rules state line state now h h
  empty_ended state line now h e is =
      let A : Coming → Type 0 = λ l. IsEnded rules state line state l h h in
      subst A (sym is) (none_ended state [] line.is_over line.bytes h e)

  some_ended : (state : S) (bytes : List ℕ) (over : Bool) (h k : History) → (length bytes ≡ 0 → ⊥) →
      IsHanded h k (rules.told (rules.next state bytes)) →
      IsEnded rules state (record { bytes = bytes; is_over = over }) (rules.next state bytes)
      (record { bytes = []; is_over = false }) h k
  some_ended state [] over h k some handed = absurd (some refl)
  some_ended state (b ∷ bs) over h k some handed =
      let after = rules.next state (b ∷ bs) in
      record {
        leads = ap (λ x. record { state = after; line = []; is_over = false; text = x }) (sym handed.sent_is);
        quiet = record { came_is = handed.came_is; asked_is = handed.asked_is };
      }

  -- one with a byte is taken and told
  pub line_ended : (state after : S) (line now : Coming) (bytes text : List ℕ) → (length line.bytes ≡ 0 → ⊥) →
      bytes ≡ line.bytes → after ≡ rules.next state bytes → text ≡ rules.told after →
      now ≡ record { bytes = []; is_over = false } → (h k : History) → IsHanded h k text →
      IsEnded rules state line after now h k
  line_ended state after line now bytes text some e1 e2 e3 e4 h k handed =
      let after_is : after ≡ rules.next state line.bytes = e2 ∙ ap (λ l. rules.next state l) e1 in
      let H : List ℕ → Type 0 = λ t. IsHanded h k t in
      let A : S → Type 0 = λ s. IsEnded rules state line s now h k in
      let B : Coming → Type 0 = λ l. IsEnded rules state line (rules.next state line.bytes) l h k in
      subst A (sym after_is) (subst B (sym e4)
      (some_ended state line.bytes line.is_over h k some (subst H (e3 ∙ ap rules.told after_is) handed)))

  some_part : (state : S) (bytes : List ℕ) (over : Bool) (h k : History) → (length bytes ≡ 0 → ⊥) →
      IsHandedPart h k (rules.told (rules.next state bytes)) →
      IsEndedPart rules state (record { bytes = bytes; is_over = over }) h k
  some_part state [] over h k some part = absurd (some refl)
  some_part state (b ∷ bs) over h k some part = record {
    begins = begins_part (sent h) (rules.told (rules.next state (b ∷ bs))) part.0 (sent k) part.2.sent_is;
    quiet = record { came_is = part.2.came_is; asked_is = part.2.asked_is };
  }

  -- of which a part was told
  pub line_part : (state after : S) (line : Coming) (bytes text : List ℕ) → (length line.bytes ≡ 0 → ⊥) →
      bytes ≡ line.bytes → after ≡ rules.next state bytes → text ≡ rules.told after →
      (h k : History) → IsHandedPart h k text → IsEndedPart rules state line h k
  line_part state after line bytes text some e1 e2 e3 h k part =
      let H : List ℕ → Type 0 = λ t. IsHandedPart h k t in
      some_part state line.bytes line.is_over h k some
      (subst H (e3 ∙ ap rules.told (e2 ∙ ap (λ l. rules.next state l) e1)) part)

  -- ---- one byte

  -- it ends a line
  pub ended_taken : (state after : S) (line left : Coming) (b : ℕ) (ends : Bool) → ends ≡ ends_line b → ends ≡ true →
      (h k : History) → IsEnded rules state line after left h k → IsTaken rules state line (b ∷ []) after left h k
  ended_taken state after line left b ends e1 e2 h k ended = record {
    leads = ap (λ x. byte_of rules x (standing state line (sent h)) b) (sym e1 ∙ e2) ∙ ended.leads;
    quiet = ended.quiet;
  }

  pub ended_part : (state : S) (line : Coming) (b : ℕ) (ends : Bool) → ends ≡ ends_line b → ends ≡ true →
      (h k : History) → IsEndedPart rules state line h k → IsTakenPart rules state line (b ∷ []) h k
  ended_part state line b ends e1 e2 h k part =
      let p = standing state line (sent h) in
      let B : Bool → Type 0 = λ x. Begins (sent k) (byte_of rules x p b).text in
      record { begins = subst B (sym (sym e1 ∙ e2)) part.begins; quiet = part.quiet }

  abbrev within : S → Coming → List ℕ → ℕ → Bool → Bool → Progress S
  within state line text b over room = more_of rules over room (standing state line text) b

  byte_is : (state : S) (line : Coming) (text : List ℕ) (b : ℕ) (over room : Bool) → ends_line b ≡ false →
      line.is_over ≡ over → nat_lt (length line.bytes) longest_line ≡ room →
      with_byte rules (standing state line text) b ≡ within state line text b over room
  byte_is state line text b over room e1 e2 e3 =
      let p = standing state line text in
      ap (λ x. byte_of rules x p b) e1
      ∙ (ap (λ x. more_of rules x (nat_lt (length line.bytes) longest_line) p b) e2
      ∙ ap (λ x. more_of rules over x p b) e3)

  -- it is passed over
  pub passed_over : (state : S) (line : Coming) (b : ℕ) → ends_line b ≡ false → line.is_over ≡ true → (h : History) →
      IsTaken rules state line (b ∷ []) state line h h
  passed_over state line b e1 e2 h = record {
    leads = byte_is state line (sent h) b true _ e1 e2 refl;
    quiet = record { came_is = refl; asked_is = refl };
  }

  -- it joins the line
  pub joined : (state : S) (line now : Coming) (b : ℕ) → ends_line b ≡ false → line.is_over ≡ false →
      nat_lt (length line.bytes) longest_line ≡ true → now ≡ record line { bytes = line.bytes ++ b ∷ [] } →
      (h : History) → IsTaken rules state line (b ∷ []) state now h h
  joined state line now b e1 e2 e3 e4 h = record {
    leads = byte_is state line (sent h) b false true e1 e2 e3 ∙ ap (λ l. standing state l (sent h)) (sym e4);
    quiet = record { came_is = refl; asked_is = refl };
  }

  -- it is one too many
  pub one_too_many : (state : S) (line now : Coming) (b : ℕ) (text : List ℕ) → ends_line b ≡ false →
      line.is_over ≡ false → nat_lt (length line.bytes) longest_line ≡ false →
      now ≡ record { bytes = []; is_over = true } → text ≡ rules.too_long → (h k : History) → IsHanded h k text →
      IsTaken rules state line (b ∷ []) state now h k
  one_too_many state line now b text e1 e2 e3 e4 e5 h k handed = record {
    leads = byte_is state line (sent h) b false false e1 e2 e3
        ∙ (ap (λ x. record { state = state; line = []; is_over = true; text = x })
        (ap (λ t. sent h ++ t) (sym e5) ∙ sym handed.sent_is)
        ∙ ap (λ l. standing state l (sent k)) (sym e4));
    quiet = record { came_is = handed.came_is; asked_is = handed.asked_is };
  }

  pub one_too_many_part : (state : S) (line : Coming) (b : ℕ) (text : List ℕ) → ends_line b ≡ false →
      line.is_over ≡ false → nat_lt (length line.bytes) longest_line ≡ false → text ≡ rules.too_long →
      (h k : History) → IsHandedPart h k text → IsTakenPart rules state line (b ∷ []) h k
  one_too_many_part state line b text e1 e2 e3 e4 h k part =
      let A : Progress S → Type 0 = λ p. Begins (sent k) p.text in
      let T : List ℕ → Type 0 = λ t. Begins (sent k) (sent h ++ t) in
      record {
        begins = subst A (sym (byte_is state line (sent h) b false false e1 e2 e3))
            (subst T e4 (begins_part (sent h) text part.0 (sent k) part.2.sent_is));
        quiet = record { came_is = part.2.came_is; asked_is = part.2.asked_is };
      }

  -- ---- a piece, byte after byte

  -- what the bytes that are left lead to from here is what all of them lead to from the first state
  pub record IsTakenOn (first : S) (begun : Coming) (bytes : List ℕ) (here : S) (line : Coming) (left : List ℕ)
      (before now : History) : Type 0 where
    pub leads : with_bytes rules (standing here line (sent now)) left
        ≡ with_bytes rules (standing first begun (sent before)) bytes
    pub quiet : DidNotAsk before now

  module _ (first state : S) (begun line : Coming) (bytes rest left : List ℕ) (b : ℕ) (left_is : left ≡ b ∷ rest)
      (h k l : History) (so_far : IsTakenOn first begun bytes state line left h k) where
    from_here : with_bytes rules (standing state line (sent k)) (b ∷ rest)
        ≡ with_bytes rules (standing first begun (sent h)) bytes
    from_here = ap (λ xs. with_bytes rules (standing state line (sent k)) xs) (sym left_is) ∙ so_far.leads

    pub feed_on : (after : S) (now : Coming) → IsTaken rules state line (b ∷ []) after now k l →
        IsTakenOn first begun bytes after now rest h l
    feed_on after now taken = record {
      leads = ap (λ p. with_bytes rules p rest) (sym taken.leads) ∙ from_here;
      quiet = quiet_then h k l so_far.quiet taken.quiet;
    }

    -- a byte of which a part was told
    pub feed_part : IsTakenPart rules state line (b ∷ []) k l → IsTakenPart rules first begun bytes h l
    feed_part part =
        let after = with_byte rules (standing state line (sent k)) b in
        let B : Progress S → Type 0 = λ p. Begins (sent l) p.text in
        record {
          begins = subst B from_here
              (begins_then (sent l) after.text (with_bytes rules after rest).text part.begins (grows rest after));
          quiet = quiet_then h k l so_far.quiet part.quiet;
        }

  -- before the first byte, and after the last
  pub feed_begins : (first : S) (begun : Coming) (bytes : List ℕ) (h : History) →
      IsTakenOn first begun bytes first begun bytes h h
  feed_begins first begun bytes h = record { leads = refl; quiet = record { came_is = refl; asked_is = refl } }

  pub feed_ends : (first state : S) (begun line : Coming) (bytes left : List ℕ) (h k : History) → left ≡ [] →
      IsTakenOn first begun bytes state line left h k → IsTaken rules first begun bytes state line h k
  feed_ends first state begun line bytes left h k none so_far = record {
    leads = sym so_far.leads ∙ ap (λ xs. with_bytes rules (standing state line (sent k)) xs) none;
    quiet = so_far.quiet;
  }
