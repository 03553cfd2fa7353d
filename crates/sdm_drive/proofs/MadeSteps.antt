-- A drive step by step: the rows of the steps that were made, and one more, are those of one more step from the start.
use Rattle.std.proofs.Common.{◌≡◌, ℕ, zero, suc, pos, ◌<◌, ◌≤◌, ◌≤ℤ◌, ◌∙◌, refl, List, ◌∷◌, [], ◌++◌, arith, ap}
use Rattle.std.proofs.Common.{sym, subst}
use Rattle.std.specs.Prelude.{length}
use Rattle.sdm_rules.specs.declared.authorities.Authority.TheVariants.{Stop}
use Rattle.sdm_rules.specs.Supervision.{after_reading}
use Rattle.sdm_drive.specs.declared.rows.DriveRow.{DriveRow}
use Rattle.sdm_rules.specs.Cells.{place_of_cell}
use Rattle.sdm_drive.specs.Drive.{Drive, after_step, after_step_from, after_steps, drive_row, drive_rows, step_time}
use Rattle.sdm_drive.specs.DriveLaws.{most_steps}
use Rattle.sdm_drive.specs.Summaries.{Counts, IsRowBefore, counts_of}

-- one step more after some steps
pub one_step_more : (n : ℕ) (s : Drive) → after_steps (suc n) s ≡ after_step (after_steps n s)
one_step_more zero s = refl
one_step_more (suc n) s = one_step_more n (after_step s)

-- and its row
pub one_row_more : (n : ℕ) (s : Drive) → drive_rows (suc n) s ≡ drive_rows n s ++ drive_row (after_steps n s) ∷ []
one_row_more zero s = refl
one_row_more (suc n) s = ap (λ (rows : List DriveRow). drive_row s ∷ rows) (one_row_more n (after_step s))

-- each step has a row
pub count_of_rows : (n : ℕ) (s : Drive) → length (drive_rows n s) ≡ n
count_of_rows zero s = refl
count_of_rows (suc n) s = ap suc (count_of_rows n (after_step s))

-- a step keeps the authority
pub same_authority : (s : Drive) → (after_step s).supervision.authority ≡ s.supervision.authority
unfolding after_step_from after_reading
same_authority s = refl

-- a step counts itself
pub step_counted : (s : Drive) → (after_step s).steps ≡ suc s.steps
unfolding after_step_from
step_counted s = refl

-- a stop has one SvL
pub same_svl : (eoa svl release eoa' svl' release' : ℕ) → Stop eoa svl release ≡ Stop eoa' svl' release' → svl ≡ svl'
same_svl eoa svl release eoa' svl' release' e = cc

-- so many steps were made from the start, and their rows were counted
pub record IsDrivenSoFar (start : Drive) (svl cycles : ℕ) (s : Drive) (counts : Counts) : Type 0 where
  pub eoa : ℕ
  pub stepped : s ≡ after_steps s.steps start
  pub counted : counts ≡ counts_of svl (drive_rows s.steps start)
  pub few : s.steps ≤ cycles
  pub authority : s.supervision.authority ≡ Stop eoa svl 0

module _ (start : Drive) (svl cycles : ℕ) (s : Drive) (counts : Counts) (h : IsDrivenSoFar start svl cycles s counts)
  where
    -- as many rows were counted as steps were made
    all_counted : counts.cycles ≡ s.steps
    all_counted = ap (λ (c : Counts). c.cycles) h.counted ∙ count_of_rows s.steps start

    -- they were counted for this SvL
    its_svl : counts.svl ≡ svl
    its_svl = ap (λ (c : Counts). c.svl) h.counted

    -- one more row may be counted
    pub few_counted : s.steps < cycles → cycles ≤ most_steps → counts.cycles < most_steps
    few_counted left few = omega (arith, all_counted)

    -- the next row is one of a drive to this SvL
    pub next_row : (row : DriveRow) → pos 0 ≤ℤ row.front → row.stops ≤ step_time →
        ((eoa to : ℕ) → s.supervision.authority ≡ Stop eoa to 0 → row.front ≤ℤ place_of_cell (pos to)) →
        IsRowBefore counts.svl row
    next_row row from_start stops by_svl = record {
      from_start = from_start;
      by_svl = subst (λ (to : ℕ). row.front ≤ℤ place_of_cell (pos to)) (sym its_svl) (by_svl h.eoa svl h.authority);
      stops = stops;
    }

    -- one more step was made, and its row was counted
    pub step_made : (row : DriveRow) (s' : Drive) (counts' : Counts) → s.steps < cycles → row ≡ drive_row s →
        s' ≡ after_step s →
        ((rows : List DriveRow) → counts ≡ counts_of counts.svl rows →
        counts' ≡ counts_of counts.svl (rows ++ row ∷ [])) →
        IsDrivenSoFar start svl cycles s' counts'
    step_made row s' counts' left row_is s'_is counted =
        let n = s.steps in
        let rows = drive_rows n start in
        let next : s'.steps ≡ suc n = ap (λ (d : Drive). d.steps) s'_is ∙ step_counted s in
        let row_all : rows ++ row ∷ [] ≡ drive_rows (suc n) start =
        ap (λ (r : DriveRow). rows ++ r ∷ []) (row_is ∙ ap drive_row h.stepped) ∙ sym (one_row_more n start) in
        let before : counts ≡ counts_of counts.svl rows =
        h.counted ∙ ap (λ (to : ℕ). counts_of to rows) (sym its_svl) in
        let all : counts' ≡ counts_of svl (drive_rows (suc n) start) =
        counted rows before ∙ (λ k. counts_of (its_svl k) (row_all k)) in
        record {
          eoa = h.eoa;
          stepped = s'_is ∙ ap after_step h.stepped ∙ sym (one_step_more n start)
              ∙ ap (λ (k : ℕ). after_steps k start) (sym next);
          counted = all ∙ ap (λ (k : ℕ). counts_of svl (drive_rows k start)) (sym next);
          few = omega (arith, next);
          authority = ap (λ (d : Drive). d.supervision.authority) s'_is ∙ same_authority s ∙ h.authority;
        }

    -- where no step is left, the rows of all were counted
    pub all_made : cycles ≤ s.steps → counts ≡ counts_of svl (drive_rows cycles start)
    all_made done =
        let same : s.steps ≡ cycles = (let few = h.few in omega arith) in
        h.counted ∙ ap (λ (k : ℕ). counts_of svl (drive_rows k start)) same
