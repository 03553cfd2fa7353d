-- The order of the three machines over a reading: each computed limit lies just before the exact one, so the exact
-- machine passes a limit only where the row machine does, and this one only where the early machine does; the triggers
-- follow.
use Rattle.std.proofs.Common.{ℕ, true, false, Option, Some, None}
use Rattle.std.specs.Prelude.{if◌then◌else◌}
use Rattle.std.specs.Option.{option_map_or}
use Rattle.sdm_num.specs.Units.{millimetre, distance_at}
use Rattle.sdm_num.specs.Fractions.{Fraction, lesser}
use Rattle.sdm_rules.specs.declared.data.Times.{Times}
use Rattle.sdm_rules.specs.declared.data.SlopeKind.{SlopeKind}
use Rattle.sdm_rules.specs.declared.data.SlopeKind.TheVariants.{Safe, Expected, Normal}
use Rattle.sdm_rules.specs.Slopes.{IsUsable}
use Rattle.sdm_rules.specs.declared.limits.LimitKind.{LimitKind}
use Rattle.sdm_rules.specs.declared.limits.LimitKind.TheVariants.{Ebi, Sbi, Warning, Permitted, Indication}
use Rattle.sdm_rules.specs.declared.targets.Target.{Target}
use Rattle.sdm_rules.specs.declared.targets.TargetKind.{TargetKind}
use Rattle.sdm_rules.specs.declared.targets.TargetKind.TheVariants.{Mrsp, Loa, Eoa, Svl}
use Rattle.sdm_num.specs.Readings.{OdometerReading, estimate_of}
use Rattle.sdm_rules.specs.Data.{TrainAndTrack}
use Rattle.sdm_rules.specs.Limits.{computed, exact_places, limit_in, limits_from_sbi, limits_of_kind}
use Rattle.sdm_rules.specs.Limits.{limits_of, ebd_limits_of, sbd_limits_of, v_bec_for, d_bec_for, guidance_place}
use Rattle.sdm_rules.specs.Decelerations.{slopes_of}
use Rattle.sdm_rules.specs.Targets.{target_speed, foot_speed_of}
use Rattle.sdm_rules.specs.Reaction.{driver_time, reaction_times}
use Rattle.sdm_rules.specs.Commands.{commands_after}
use Rattle.sdm_rules.specs.Supervision.{Supervision, situation_of, commands_in}
use Rattle.sdm_rules.specs.Machines.{KeepsOrder, held_after, machine_after}
use Rattle.sdm_laws.proofs.Rows.TriggerOrder.{IsSoonerIfAny, triggers_imply, emergency_implies}
use Rattle.sdm_laws.specs.SupervisionLaws.{IsJustBefore, AreJustBeforeIfAny, AreLimitsJustBefore}
use Rattle.sdm_laws.proofs.Rows.Nearness.{less_near, lesser_near, exact_sooner, low_sooner}
use Rattle.sdm_laws.proofs.BrakeCurves.CurveNearness.{near_on}

-- the slopes of each kind are usable
abbrev pub AreUsable : TrainAndTrack → Type 0
AreUsable d = (kind : SlopeKind) → IsUsable (slopes_of kind d)

-- the lesser of two places, where there is a second one, lies just before the lesser of two others
guided_near : (guide guide' : Option Fraction) (low x : Fraction) → AreJustBeforeIfAny guide guide' →
    IsJustBefore low x → IsJustBefore (option_map_or (λ g. lesser g low) guide low)
    (option_map_or (λ g. lesser g x) guide' x)
guided_near None None low x g h = h
guided_near None (Some y) low x g h = absurd g
guided_near (Some y) None low x g h = absurd g
guided_near (Some y) (Some z) low x g h = lesser_near y z low x g h

-- limits that are taken from an SBI just before another lie just before the other's
before_near : (times : Times) (v : ℕ) (guide guide' ebi ebi' : Option Fraction) (sbi sbi' : Fraction) →
    AreJustBeforeIfAny guide guide' → AreJustBeforeIfAny ebi ebi' → IsJustBefore sbi sbi' →
    AreLimitsJustBefore (limits_from_sbi times v guide ebi sbi) (limits_from_sbi times v guide' ebi' sbi')
before_near times v guide guide' ebi ebi' sbi sbi' g e h =
    let permitted = guided_near guide guide' _ _ g (less_near sbi sbi' (distance_at v driver_time) h) in
    record {
      each = λ kind.
          elim kind as (λ k. AreJustBeforeIfAny (limit_in k (limits_from_sbi times v guide ebi sbi))
          (limit_in k (limits_from_sbi times v guide' ebi' sbi'))) [
            | Ebi ↦ e
            | Sbi ↦ h
            | Warning ↦ less_near sbi sbi' _ h
            | Permitted ↦ permitted
            | Indication ↦ less_near _ _ _ permitted
          ];
    }

-- the computed place of guidance lies just before the exact one
guide_near : (d : TrainAndTrack) → AreUsable d → (r : OdometerReading) (t : Target) →
    AreJustBeforeIfAny (guidance_place computed d (estimate_of r) t) (guidance_place exact_places d (estimate_of r) t)
guide_near d h r t =
    elim d.national.guidance as (λ b. AreJustBeforeIfAny (if b
    then Some (computed (slopes_of Normal d) t.place (target_speed t) r.speed) else None)
    (if b then Some (exact_places (slopes_of Normal d) t.place (target_speed t) r.speed) else None)) [
      | true ↦ near_on (slopes_of Normal d) (h Normal) t.place (target_speed t) r.speed
      | false ↦ tt
    ]

-- so do the limits by the EBD
ebd_near : (d : TrainAndTrack) → AreUsable d → (r : OdometerReading) (t : Target) (g g' : Option Fraction) →
    AreJustBeforeIfAny g g' → AreLimitsJustBefore (ebd_limits_of computed d (estimate_of r) t g)
    (ebd_limits_of exact_places d (estimate_of r) t g')
ebd_near d h r t g g' n =
    let x = near_on (slopes_of Safe d) (h Safe) t.place (foot_speed_of t) (v_bec_for d (estimate_of r) t) in
    let e = less_near _ _ (d_bec_for d (estimate_of r) t) x in
    before_near (reaction_times d) r.speed g g' _ _ _ _ n e
    (less_near _ _ (distance_at r.speed (reaction_times d).bs) e)

-- and those by the SBD
sbd_near : (d : TrainAndTrack) → AreUsable d → (r : OdometerReading) (t : Target) (g g' : Option Fraction) →
    AreJustBeforeIfAny g g' → AreLimitsJustBefore (sbd_limits_of computed d (estimate_of r) t g)
    (sbd_limits_of exact_places d (estimate_of r) t g')
sbd_near d h r t g g' n =
    before_near (reaction_times d) r.speed g g' None None _ _ n tt
    (less_near _ _ (distance_at r.speed (reaction_times d).bs)
    (near_on (slopes_of Expected d) (h Expected) t.place 0 r.speed))

-- and those of each kind of target
kind_near : (d : TrainAndTrack) → AreUsable d → (r : OdometerReading) (t : Target) (k : TargetKind) →
    AreLimitsJustBefore (limits_of_kind computed d (estimate_of r) t k)
    (limits_of_kind exact_places d (estimate_of r) t k)
kind_near d h r t Mrsp = ebd_near d h r t _ _ (guide_near d h r t)
kind_near d h r t Loa = ebd_near d h r t _ _ (guide_near d h r t)
kind_near d h r t Eoa = sbd_near d h r t _ _ (guide_near d h r t)
kind_near d h r t Svl = ebd_near d h r t None None tt

-- each computed limit of a target lies just before the exact one
pub limits_near : (d : TrainAndTrack) → AreUsable d → (r : OdometerReading) (t : Target) →
    AreLimitsJustBefore (limits_of computed d (estimate_of r) t) (limits_of exact_places d (estimate_of r) t)
unfolding limits_of
limits_near d h r t = kind_near d h r t t.kind

-- ---- from near to sooner

-- a limit just before the exact one is passed wherever the exact one is
pub if_exact_sooner : (x y : Option Fraction) → AreJustBeforeIfAny x y → IsSoonerIfAny 0 y 0 x
if_exact_sooner None None h = tt
if_exact_sooner None (Some y) h = absurd h
if_exact_sooner (Some x) None h = absurd h
if_exact_sooner (Some x) (Some y) h = exact_sooner x y h

-- a limit just before the exact one is passed only where the exact one, a millimetre earlier, is
pub if_low_sooner : (x y : Option Fraction) → AreJustBeforeIfAny x y → IsSoonerIfAny 0 x millimetre y
if_low_sooner None None h = tt
if_low_sooner None (Some y) h = absurd h
if_low_sooner (Some x) None h = absurd h
if_low_sooner (Some x) (Some y) h = low_sooner x y h

-- the three machines' commands stay in order over a reading
pub keeps_order : (s : Supervision) (r : OdometerReading) → AreUsable s.train_and_track →
    KeepsOrder s r (held_after s r)
unfolding machine_after commands_in commands_after
keeps_order s r near must may order =
    let now = situation_of s r in
    let low = limits_of computed s.train_and_track (estimate_of r) in
    let exact = limits_of exact_places s.train_and_track (estimate_of r) in
    let near_to = λ (t : Target) (kind : LimitKind). (limits_near s.train_and_track near r t).each kind in
    record {
      needed = emergency_implies _ _ must s.commands.eb _ _
          (triggers_imply exact low 0 0 now
          (λ t. record {
            each = λ kind. if_exact_sooner (limit_in kind (low t)) (limit_in kind (exact t)) (near_to t kind);
          })) order.needed;
      allowed = emergency_implies _ _ s.commands.eb may _ _
          (triggers_imply low exact 0 millimetre now
          (λ t. record {
            each = λ kind. if_low_sooner (limit_in kind (low t)) (limit_in kind (exact t)) (near_to t kind);
          })) order.allowed;
    }
