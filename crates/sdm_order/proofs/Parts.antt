-- Enough targets part by part: slow falls that some stand for by their EBDs, and by their guidance curves, faster falls,
-- and the targets behind the falls.
use Rattle.std.proofs.Common.{◌≡◌, ◌⊎◌, inl, inr, true, ◌<◌, ◌≤◌, ◌++◌, List}
use Rattle.std.specs.Prelude.{All, Any, Contains}
use Rattle.std.proofs.lemmas.Bool.{cases_lt}
use Rattle.std.proofs.lemmas.List.Elements.{All-contains, Contains-append_cases, Contains-append_left}
use Rattle.std.proofs.lemmas.List.Elements.{Contains-append_right}
use Rattle.sdm_num.specs.Readings.{Estimate}
use Rattle.sdm_rules.specs.declared.targets.Target.{Target}
use Rattle.sdm_rules.specs.declared.targets.TargetKind.TheVariants.{Mrsp}
use Rattle.sdm_rules.specs.Data.{TrainAndTrack}
use Rattle.sdm_rules.specs.Targets.{target_speed}
use Rattle.sdm_order.specs.AskedTargets.{AreOf}
use Rattle.sdm_order.specs.EnoughTargets.{AreEnough, IsBrakedBefore, IsGuidedBefore, IsMetFall}

-- what is so of some of a list is so of some of a longer one
any_left : (P : Target → Type 0) (xs ys : List Target) → Any P xs → Any P (xs ++ ys)
any_left P xs ys a =
    let c = Contains-append_left xs ys a.1 (a.0, a.2, a.3) in
    (c.0, a.1, c.1, c.2, a.4)

any_right : (P : Target → Type 0) (xs ys : List Target) → Any P ys → Any P (xs ++ ys)
any_right P xs ys a =
    let c = Contains-append_right xs ys a.1 (a.0, a.2, a.3) in
    (c.0, a.1, c.1, c.2, a.4)

module _ (d : TrainAndTrack) (e : Estimate) (falls ends brakes guides faster : List Target)
    (each : All (λ t. t.kind ≡ Mrsp) falls) (brakes_of : AreOf falls brakes) (guides_of : AreOf falls guides)
    (faster_of : AreOf falls faster) where
  -- what is asked, in this order
  abbrev asked : List Target
  asked = ((brakes ++ guides) ++ faster) ++ ends

  -- each that is asked is a fall or behind the falls
  asked_of : AreOf (falls ++ ends) asked
  asked_of t there = elim (Contains-append_cases ((brakes ++ guides) ++ faster) ends t there) [
    | inr end ↦ Contains-append_right falls ends t end
    | inl fall ↦ Contains-append_left falls ends t (elim (Contains-append_cases (brakes ++ guides) faster t fall) [
      | inr fast ↦ faster_of t fast
      | inl slow ↦ elim (Contains-append_cases brakes guides t slow) [
        | inl brake ↦ brakes_of t brake
        | inr guide ↦ guides_of t guide
      ]
    ])
  ]

  -- they are enough
  pub enough_in_parts :
      ((t : Target) → Contains falls t → target_speed t ≤ e.speed → Any (IsBrakedBefore d e t) brakes) →
      (d.national.guidance ≡ true → (t : Target) → Contains falls t → target_speed t ≤ e.speed →
      Any (IsGuidedBefore d e t) guides) →
      ((t : Target) → Contains falls t → e.speed < target_speed t → Contains faster t ⊎ IsMetFall d e t) →
      AreEnough d e (falls ++ ends) asked
  enough_in_parts braked guided fast = record {
    of = asked_of;
    each = λ t there. elim (Contains-append_cases falls ends t there) [
      | inr end ↦ inl (Contains-append_right ((brakes ++ guides) ++ faster) ends t end)
      | inl fall ↦ elim (cases_lt e.speed (target_speed t)) [
        | inl above ↦ elim (fast t fall above) [
          | inl it ↦ inl (Contains-append_left ((brakes ++ guides) ++ faster) ends t
              (Contains-append_right (brakes ++ guides) faster t it))
          | inr met ↦ inr (inr met)
        ]
        | inr within ↦ inr (inl (record {
          slow = record { kind = All-contains (λ (u : Target). u.kind ≡ Mrsp) falls t each fall; slow = within };
          brakes = any_left _ ((brakes ++ guides) ++ faster) ends
              (any_left _ (brakes ++ guides) faster (any_left _ brakes guides (braked t fall within)));
          guides = λ on. any_left _ ((brakes ++ guides) ++ faster) ends
              (any_left _ (brakes ++ guides) faster (any_right _ brakes guides (guided on t fall within)));
        }))
      ]
    ];
  }
