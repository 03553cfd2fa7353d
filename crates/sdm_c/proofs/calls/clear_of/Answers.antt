-- What the supervisor answers of the numbers that were passed is written as it is.
use Rattle.std.proofs.Common.{◌≡◌, pos, Some, rules}
use Rattle.sdm_c.specs.Codes.{place_in_c}
use Rattle.sdm_c.specs.Numbers.{is_allowance, is_reading}
use Rattle.sdm_c.proofs.ClearPlaces.{first_out, second_out, told}
use Rattle.sdm_c.proofs.calls.clear_of.Goals as goal

pub returns-in_default-clause-status : goal.returns-in_default-clause-status
returns-in_default-clause-status c =
    first_out (is_reading c.args.reading) (is_allowance c.args.allowance) c.in_default.ensures

pub returns-in_default-allowance_from-clause-status : goal.returns-in_default-allowance_from-clause-status
returns-in_default-allowance_from-clause-status c =
    second_out (is_reading c.args.reading) (is_allowance c.args.allowance) c.in_default-allowance_from.ensures

pub returns-in-Some-clear_of-clause-first : goal.returns-in-Some-clear_of-clause-first
returns-in-Some-clear_of-clause-first c = λ answered.
    let reading = c.in-Some.ensures.1 in
    let allowance = c.in-Some-allowance_from.ensures.1 in
    let first = rw (reading, allowance) at c.in-Some-clear_of.ensures.first in
    let stops = rw (reading, allowance) at c.in-Some-clear_of.ensures.stops in
    let written : c.place.result ≡ place_in_c (Some (pos c.in-Some-clear_of.mm)) = search rules in
    (told c.args.supervisor.now.train_and_track c.args.reading c.args.allowance (Some c.in-Some-clear_of.mm)
    c.place.result written first stops).0

pub returns-in-Some-clear_of-clause-stops : goal.returns-in-Some-clear_of-clause-stops
returns-in-Some-clear_of-clause-stops c = λ answered.
    let reading = c.in-Some.ensures.1 in
    let allowance = c.in-Some-allowance_from.ensures.1 in
    let first = rw (reading, allowance) at c.in-Some-clear_of.ensures.first in
    let stops = rw (reading, allowance) at c.in-Some-clear_of.ensures.stops in
    let written : c.place.result ≡ place_in_c (Some (pos c.in-Some-clear_of.mm)) = search rules in
    (told c.args.supervisor.now.train_and_track c.args.reading c.args.allowance (Some c.in-Some-clear_of.mm)
    c.place.result written first stops).1
