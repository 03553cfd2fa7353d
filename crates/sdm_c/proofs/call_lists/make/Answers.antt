-- Each call says by its clauses what the fold says of it.
use Rattle.std.proofs.Common.{ℕ, ap, refl, subst, sym}
use Rattle.sdm_c.specs.declared.call_lists.Call.{Call}
use Rattle.sdm_c.specs.declared.call_lists.Call.TheVariants as calls
use Rattle.sdm_c.specs.declared.structs.CausesC.{CausesC}
use Rattle.sdm_c.specs.declared.structs.DisplayC.{DisplayC}
use Rattle.sdm_c.specs.declared.structs.PlaceC.{PlaceC}
use Rattle.sdm_c.specs.declared.structs.RowC.{RowC}
use Rattle.sdm_c.specs.Statuses.{clear_answer, display_answer, done}
use Rattle.sdm_c.proofs.ClearPlaces.{as_value}
use Rattle.sdm_c.proofs.MadeCalls.{IsMadeBy, asks, changed, ended, closed_all, ended_calculated, limited, opened, reading}
use Rattle.sdm_c.proofs.MadeCalls.{restricted, revoked}
use Rattle.sdm_c.proofs.call_lists.make.Goals as goal

pub returns-in-Open-clause-made : goal.returns-in-Open-clause-made
returns-in-Open-clause-made c =
    subst (λ (call : Call). IsMadeBy c.args.given.now c.args.h.now c.sdm_open.new.h c.args.before.now c.args.written.now
    c.args.written.now c.sdm_open.result call) (sym c.in-Open.is)
    (opened c.args.given.now c.args.h.now c.sdm_open.new.h c.args.before.now c.args.written.now c.args.written.now
    c.sdm_open.result refl c.sdm_open.ensures.unchanged c.sdm_open.ensures.status c.sdm_open.ensures.in_use
    c.sdm_open.ensures.open c.sdm_open.ensures.opening)

pub returns-in-Cycle-clause-made : goal.returns-in-Cycle-clause-made
returns-in-Cycle-clause-made c =
    let w = c.args.written.now in
    let v = record w { row = c.sdm_cycle.new.row } in
    subst (λ (call : Call). IsMadeBy c.args.given.now c.args.h.now c.sdm_cycle.new.h c.args.before.now w v
    c.sdm_cycle.result call) (sym c.in-Cycle.is)
    (reading c.args.given.now c.args.h.now c.sdm_cycle.new.h c.args.before.now w v c.sdm_cycle.result
    (λ no. ap (λ (row : RowC). record w { row = row }) (c.sdm_cycle.ensures.same_row no))
    c.sdm_cycle.ensures.unchanged c.in-Cycle.reading c.sdm_cycle.ensures.status c.sdm_cycle.ensures.taken
    (λ z. ap (λ (row : RowC). record w { row = row }) (c.sdm_cycle.ensures.row z)))

pub returns-in-End-clause-made : goal.returns-in-End-clause-made
returns-in-End-clause-made c =
    subst (λ (call : Call). IsMadeBy c.args.given.now c.args.h.now c.sdm_end.new.h c.args.before.now c.args.written.now
    c.args.written.now c.sdm_end.result call) (sym c.in-End.is)
    (ended c.args.given.now c.args.h.now c.sdm_end.new.h c.args.before.now c.args.written.now c.args.written.now
    c.sdm_end.result refl c.sdm_end.ensures.unchanged c.in-End.eoa_cm c.in-End.svl_cm c.in-End.release_kmh
    c.sdm_end.ensures.status c.sdm_end.ensures.taken)

pub returns-in-EndCalculated-clause-made : goal.returns-in-EndCalculated-clause-made
returns-in-EndCalculated-clause-made c =
    subst (λ (call : Call). IsMadeBy c.args.given.now c.args.h.now c.sdm_end_calculated.new.h c.args.before.now
    c.args.written.now c.args.written.now c.sdm_end_calculated.result call) (sym c.in-EndCalculated.is)
    (ended_calculated c.args.given.now c.args.h.now c.sdm_end_calculated.new.h c.args.before.now c.args.written.now
    c.args.written.now c.sdm_end_calculated.result refl c.sdm_end_calculated.ensures.unchanged
    c.in-EndCalculated.eoa_cm c.in-EndCalculated.svl_cm c.in-EndCalculated.trip_cm
    c.sdm_end_calculated.ensures.status c.sdm_end_calculated.ensures.taken)

pub returns-in-Limit-clause-made : goal.returns-in-Limit-clause-made
returns-in-Limit-clause-made c =
    subst (λ (call : Call). IsMadeBy c.args.given.now c.args.h.now c.sdm_limit.new.h c.args.before.now
    c.args.written.now c.args.written.now c.sdm_limit.result call) (sym c.in-Limit.is)
    (limited c.args.given.now c.args.h.now c.sdm_limit.new.h c.args.before.now c.args.written.now c.args.written.now
    c.sdm_limit.result refl c.sdm_limit.ensures.unchanged c.in-Limit.loa_cm c.in-Limit.speed_kmh
    c.sdm_limit.ensures.status c.sdm_limit.ensures.taken)

pub returns-in-Restrict-clause-made : goal.returns-in-Restrict-clause-made
returns-in-Restrict-clause-made c =
    subst (λ (call : Call). IsMadeBy c.args.given.now c.args.h.now c.sdm_restrict.new.h c.args.before.now
    c.args.written.now c.args.written.now c.sdm_restrict.result call) (sym c.in-Restrict.is)
    (restricted c.args.given.now c.args.h.now c.sdm_restrict.new.h c.args.before.now c.args.written.now
    c.args.written.now c.sdm_restrict.result refl c.sdm_restrict.ensures.unchanged c.in-Restrict.restriction
    c.sdm_restrict.ensures.status c.sdm_restrict.ensures.taken)

pub returns-in-Revoke-clause-made : goal.returns-in-Revoke-clause-made
returns-in-Revoke-clause-made c =
    subst (λ (call : Call). IsMadeBy c.args.given.now c.args.h.now c.sdm_revoke.new.h c.args.before.now
    c.args.written.now c.args.written.now c.sdm_revoke.result call) (sym c.in-Revoke.is)
    (revoked c.args.given.now c.args.h.now c.sdm_revoke.new.h c.args.before.now c.args.written.now c.args.written.now
    c.sdm_revoke.result refl c.sdm_revoke.ensures.unchanged c.in-Revoke.id c.sdm_revoke.ensures.status
    c.sdm_revoke.ensures.taken)

pub returns-in-TakeOver-clause-made : goal.returns-in-TakeOver-clause-made
returns-in-TakeOver-clause-made c =
    subst (λ (call : Call). IsMadeBy c.args.given.now c.args.h.now c.sdm_take_over.new.next c.args.before.now
    c.args.written.now c.args.written.now c.sdm_take_over.result call) (sym c.in-TakeOver.is)
    (changed c.args.given.now c.args.h.now c.sdm_take_over.new.next c.args.before.now c.args.written.now
    c.args.written.now c.sdm_take_over.result refl c.sdm_take_over.ensures.unchanged c.sdm_take_over.ensures.status
    c.sdm_take_over.ensures.taken)

pub returns-in-Display-clause-made : goal.returns-in-Display-clause-made
returns-in-Display-clause-made c =
    let w = c.args.written.now in
    let v = record w { display = c.sdm_display.new.display } in
    subst (λ (call : Call). IsMadeBy c.args.given.now c.args.h.now c.sdm_display.new.h c.args.before.now w v
    c.sdm_display.result call) (sym c.in-Display.is)
    (asks c.args.given.now c.args.h.now c.sdm_display.new.h c.args.before.now w v c.sdm_display.result
    (λ no. ap (λ (x : DisplayC). record w { display = x }) (c.sdm_display.ensures.same_display no))
    (λ no. c.sdm_display.ensures.unchanged) (calls.Display c.in-Display.reading) (display_answer c.in-Display.reading)
    (λ s. refl) (λ s. refl) refl c.sdm_display.ensures.status c.sdm_display.ensures.unchanged
    (λ z. ap (λ (x : DisplayC). record w { display = x }) (c.sdm_display.ensures.shown z)))

pub returns-in-Causes-clause-made : goal.returns-in-Causes-clause-made
returns-in-Causes-clause-made c =
    let w = c.args.written.now in
    let v = record w { causes = c.sdm_causes.new.causes } in
    subst (λ (call : Call). IsMadeBy c.args.given.now c.args.h.now c.sdm_causes.new.h c.args.before.now w v
    c.sdm_causes.result call) (sym c.in-Causes.is)
    (asks c.args.given.now c.args.h.now c.sdm_causes.new.h c.args.before.now w v c.sdm_causes.result
    (λ no. ap (λ (x : CausesC). record w { causes = x }) (c.sdm_causes.ensures.same_causes no))
    (λ no. c.sdm_causes.ensures.unchanged) (calls.Causes c.in-Causes.reading) (display_answer c.in-Causes.reading)
    (λ s. refl) (λ s. refl) refl c.sdm_causes.ensures.status c.sdm_causes.ensures.unchanged
    (λ z. ap (λ (x : CausesC). record w { causes = x }) (c.sdm_causes.ensures.told z)))

pub returns-in-WouldCover-clause-made : goal.returns-in-WouldCover-clause-made
returns-in-WouldCover-clause-made c =
    let w = c.args.written.now in
    let v = record w { is_covered = c.sdm_would_cover.new.is_covered } in
    subst (λ (call : Call). IsMadeBy c.args.given.now c.args.h.now c.sdm_would_cover.new.h c.args.before.now w v
    c.sdm_would_cover.result call) (sym c.in-WouldCover.is)
    (asks c.args.given.now c.args.h.now c.sdm_would_cover.new.h c.args.before.now w v c.sdm_would_cover.result
    (λ no. ap (λ (x : ℕ). record w { is_covered = x }) (c.sdm_would_cover.ensures.same_flag no))
    (λ no. c.sdm_would_cover.ensures.unchanged) (calls.WouldCover c.in-WouldCover.reading) (display_answer c.in-WouldCover.reading)
    (λ s. refl) (λ s. refl) refl c.sdm_would_cover.ensures.status c.sdm_would_cover.ensures.unchanged
    (λ z. ap (λ (x : ℕ). record w { is_covered = x }) (c.sdm_would_cover.ensures.value z)))

pub returns-in-WouldCoverUpTo-clause-made : goal.returns-in-WouldCoverUpTo-clause-made
returns-in-WouldCoverUpTo-clause-made c =
    let w = c.args.written.now in
    let v = record w { is_covered = c.sdm_would_cover_up_to.new.is_covered } in
    subst (λ (call : Call). IsMadeBy c.args.given.now c.args.h.now c.sdm_would_cover_up_to.new.h c.args.before.now w v
    c.sdm_would_cover_up_to.result call) (sym c.in-WouldCoverUpTo.is)
    (asks c.args.given.now c.args.h.now c.sdm_would_cover_up_to.new.h c.args.before.now w v c.sdm_would_cover_up_to.result
    (λ no. ap (λ (x : ℕ). record w { is_covered = x }) (c.sdm_would_cover_up_to.ensures.same_flag no))
    (λ no. c.sdm_would_cover_up_to.ensures.unchanged) (calls.WouldCoverUpTo c.in-WouldCoverUpTo.asked) (display_answer c.in-WouldCoverUpTo.asked)
    (λ s. refl) (λ s. refl) refl c.sdm_would_cover_up_to.ensures.status c.sdm_would_cover_up_to.ensures.unchanged
    (λ z. ap (λ (x : ℕ). record w { is_covered = x }) (c.sdm_would_cover_up_to.ensures.value z)))

pub returns-in-HasTripPlace-clause-made : goal.returns-in-HasTripPlace-clause-made
returns-in-HasTripPlace-clause-made c =
    let w = c.args.written.now in
    let v = record w { has_place = c.sdm_has_trip_place.new.has_place } in
    subst (λ (call : Call). IsMadeBy c.args.given.now c.args.h.now c.sdm_has_trip_place.new.h c.args.before.now w v
    c.sdm_has_trip_place.result call) (sym c.in-HasTripPlace.is)
    (asks c.args.given.now c.args.h.now c.sdm_has_trip_place.new.h c.args.before.now w v c.sdm_has_trip_place.result
    (λ no. ap (λ (x : ℕ). record w { has_place = x }) (c.sdm_has_trip_place.ensures.same_flag no))
    (λ no. c.sdm_has_trip_place.ensures.unchanged) (calls.HasTripPlace c.in-HasTripPlace.width_cm c.in-HasTripPlace.excess_mm_s) done
    (λ s. refl) (λ s. refl) refl c.sdm_has_trip_place.ensures.status c.sdm_has_trip_place.ensures.unchanged
    (λ z. ap (λ (x : ℕ). record w { has_place = x }) (c.sdm_has_trip_place.ensures.told z)))

pub returns-in-ClearOf-clause-made : goal.returns-in-ClearOf-clause-made
returns-in-ClearOf-clause-made c =
    let w = c.args.written.now in
    let v = record w { first = c.sdm_clear_of.new.first } in
    subst (λ (call : Call). IsMadeBy c.args.given.now c.args.h.now c.sdm_clear_of.new.h c.args.before.now w v
    c.sdm_clear_of.result call) (sym c.in-ClearOf.is)
    (asks c.args.given.now c.args.h.now c.sdm_clear_of.new.h c.args.before.now w v c.sdm_clear_of.result
    (λ no. ap (λ (x : PlaceC). record w { first = x }) (c.sdm_clear_of.ensures.same_place no))
    (λ no. c.sdm_clear_of.ensures.unchanged) (calls.ClearOf c.in-ClearOf.reading c.in-ClearOf.allowance) (clear_answer c.in-ClearOf.reading c.in-ClearOf.allowance)
    (λ s. refl) (λ s. refl) refl c.sdm_clear_of.ensures.status c.sdm_clear_of.ensures.unchanged
    (λ z. ap (λ (x : PlaceC). record w { first = x })
    (as_value c.args.h.now.state c.in-ClearOf.reading c.in-ClearOf.allowance c.sdm_clear_of.new.first
    (c.sdm_clear_of.ensures.first z))))

pub returns-in-Close-clause-made : goal.returns-in-Close-clause-made
returns-in-Close-clause-made c =
    subst (λ (call : Call). IsMadeBy c.args.given.now c.args.h.now c.sdm_close.new.h c.args.before.now
    c.args.written.now c.args.written.now 0 call) (sym c.in-Close.is)
    (closed_all c.args.given.now c.args.h.now c.sdm_close.new.h c.args.before.now c.args.written.now c.args.written.now 0
    refl refl c.sdm_close.ensures.closed)
