-- Which data are accepted, and the first rule that others break: a number outside its range, too many or too few
-- entries, entries out of order (ranges own). Indices count from 1.
use Rattle.std.specs.Prelude.{ℕ, suc, ℤ, pos, neg_ℤ, Bool, true, ◌&&◌, List, [], ◌∷◌, Option, Some, None, ◌-ℤ◌, ◌+ℤ◌}
use Rattle.std.specs.Prelude.{◌%◌, ◌==◌, int_le, int_lt, nat_lt, nat_le, length, unsigned_abs, if◌then◌else◌}
pub use Rattle.sdm_num.specs.Units.{top_kmh}
use Rattle.sdm_rules.specs.declared.data.Band.{Band}
use Rattle.sdm_rules.specs.declared.data.Gradient.{Gradient}
use Rattle.sdm_rules.specs.declared.data.SpeedStep.{SpeedStep}
use Rattle.sdm_rules.specs.declared.data.Area.{Area}
use Rattle.sdm_rules.specs.declared.data.NationalFields.{NationalFields}
use Rattle.sdm_rules.specs.declared.faults.TrainFault.{TrainFault}
use Rattle.sdm_rules.specs.declared.faults.TrainFault.TheVariants as train_faults
use Rattle.sdm_rules.specs.declared.faults.NationalFault.{NationalFault}
use Rattle.sdm_rules.specs.declared.faults.NationalFault.TheVariants as national_faults
use Rattle.sdm_rules.specs.declared.faults.TrackFault.{TrackFault}
use Rattle.sdm_rules.specs.declared.faults.TrackFault.TheVariants.{Count, Order, Value, Gap}
use Rattle.sdm_rules.specs.declared.faults.Section.{Section}
use Rattle.sdm_rules.specs.declared.faults.Section.TheVariants as sections
use Rattle.sdm_rules.specs.Keys as keys
use Rattle.sdm_rules.specs.Slopes.{most_bands}
use Rattle.sdm_rules.specs.Data.{TrainData, TrackData}

-- ---- the greatest numbers

-- the longest track, in cm (own)
abbrev pub longest_track : ℕ
longest_track = 10_000_000

-- the longest train, in cm (own)
abbrev pub longest_train : ℕ
longest_train = 150_000

-- the steepest gradient, 80 per mille, in tenths of a per mille (own)
abbrev pub steepest : ℤ
steepest = pos 800

-- the most gradients of a track (own)
abbrev pub most_gradients : ℕ
most_gradients = 512

-- the most entries of the static speed profile (own)
abbrev pub most_speeds : ℕ
most_speeds = 128

-- the most areas of a list (own)
abbrev pub most_areas : ℕ
most_areas = 64

-- ---- numbers in their ranges

-- the key of a number that is refused (own)
abbrev pub refused : ℕ → Bool → Option ℕ
refused key accepted = if accepted then None else Some key

-- the number is from `least` to `greatest`, both included (own)
abbrev pub is_within : ℤ → ℤ → ℤ → Bool
is_within least greatest n = int_le least n && int_le n greatest

-- the number, where there is one, is from `least` to `greatest`, both included (own)
abbrev pub is_within_if_any : ℤ → ℤ → Option ℤ → Bool
is_within_if_any least greatest None = true
is_within_if_any least greatest (Some n) = is_within least greatest n

-- the first of the choices that there is (own)
abbrev pub or_else : {A : Type 0} → Option A → Option A → Option A
or_else None y = y
or_else (Some x) y = Some x

-- the first key that is refused (own)
abbrev pub first_refused : List (Option ℕ) → Option ℕ
first_refused [] = None
first_refused (x ∷ xs) = or_else x (first_refused xs)

-- the fault at a key that is refused (own)
abbrev pub fault_at : {F : Type 0} → (ℕ → F) → Option ℕ → Option F
fault_at fault None = None
fault_at fault (Some key) = Some (fault key)

-- ---- the train

-- the first of the train's own numbers that is refused (own)
abbrev pub train_refused : TrainData → Option ℕ
train_refused t = first_refused
    (refused keys.train_length (is_within (pos 1) (pos longest_train) t.length_cm)
    ∷ refused keys.train_max_speed (is_within (pos 1) (pos top_kmh) t.max_speed)
    ∷ refused keys.train_rotating_mass (is_within_if_any (pos 0) (pos 50) t.rotating_mass)
    ∷ refused keys.train_traction_cutoff_time (is_within (pos 0) (pos 300) t.cut_off_time)
    ∷ refused keys.train_emergency_time (is_within (pos 0) (pos 300) t.emergency_time)
    ∷ refused keys.train_service_time
    (is_within (pos 0) (pos 300) t.service_time && ((unsigned_abs t.service_time % 5) == 0))
    ∷ [])

-- the first of a band's numbers that is refused (own)
abbrev pub band_refused : Band → Option ℕ
band_refused b = first_refused
    (refused keys.band_upper (is_within_if_any (pos 1) (pos top_kmh) b.upper)
    ∷ refused keys.band_emergency (is_within (pos 1) (pos 400) b.emergency)
    ∷ refused keys.band_service (is_within (pos 1) (pos 400) b.service)
    ∷ refused keys.band_normal (is_within (pos 1) (pos 400) b.normal)
    ∷ refused keys.band_kdry (is_within (pos 1) (pos 1000) b.kdry)
    ∷ refused keys.band_kwet (is_within (pos 1) (pos 1000) b.kwet)
    ∷ refused keys.band_kn_up (is_within (pos 0) (pos 1000) b.kn_up)
    ∷ refused keys.band_kn_down (is_within (pos 0) (pos 1000) b.kn_down)
    ∷ refused keys.band_emergency_reduced (is_within_if_any (pos 1) b.emergency b.emergency_reduced)
    ∷ [])

-- the first value of the bands that is refused, from the band `i` on (own)
abbrev pub band_value_fault : ℕ → List Band → Option TrainFault
band_value_fault i [] = None
band_value_fault i (b ∷ more) =
    or_else (fault_at (λ key. train_faults.Value i key) (band_refused b)) (band_value_fault (suc i) more)

-- the fault of the last band where it has an upper speed (own)
abbrev pub order_of_last : ℕ → Option ℤ → Option TrainFault
order_of_last i None = None
order_of_last i (Some upper) = Some (train_faults.BandOrder i)

-- the fault of any other band where it has no upper speed above that of the band before it, `above`; else that of the
-- bands after it (own)
abbrev pub order_of_next : ℕ → ℤ → Option ℤ → (ℤ → Option TrainFault) → Option TrainFault
order_of_next i above None later = Some (train_faults.BandOrder i)
order_of_next i above (Some upper) later = if int_lt above upper then later upper else Some (train_faults.BandOrder i)

-- the first band out of order, from the band `i` on (own)
abbrev pub band_order_fault : ℕ → ℤ → List Band → Option TrainFault
band_order_fault i above [] = None
band_order_fault i above (b ∷ []) = order_of_last i b.upper
band_order_fault i above (b ∷ next ∷ more) =
    order_of_next i above b.upper (λ upper. band_order_fault (suc i) upper (next ∷ more))

-- the fault of a count of bands where there is none, or too many (own)
abbrev pub band_count_fault : ℕ → Option TrainFault
band_count_fault count = if nat_lt 0 count && nat_le count most_bands then None else Some train_faults.BandCount

-- The first rule that a train breaks, where so many bands were given: of its own numbers, of the count of bands, of
-- their numbers, of their order (own).
unfoldable pub train_fault : ℕ → TrainData → Option TrainFault
train_fault count t =
    or_else (fault_at (λ key. train_faults.Value 0 key) (train_refused t))
    (or_else (band_count_fault count) (or_else (band_value_fault 1 t.bands) (band_order_fault 1 (pos 0) t.bands)))

-- ---- the national values

-- the first rule that national values break (own)
unfoldable pub national_fault : NationalFields → Option NationalFault
national_fault n = fault_at (λ key. national_faults.Value key)
    (first_refused (refused keys.national_avadh (is_within (pos 0) (pos 20) n.avadh)
    ∷ refused keys.national_adhesion_max (is_within (pos 1) (pos 400) n.adhesion_max) ∷ []))

-- ---- the track

-- the first number of a gradient that is refused, on a track of a length in cm (own)
abbrev pub gradient_refused : ℤ → Gradient → Option ℕ
gradient_refused length_cm g = first_refused (refused keys.gradient_start
    (is_within (pos 0) (length_cm -ℤ pos 1) g.start)
    ∷ refused keys.gradient_grad (is_within (neg_ℤ steepest) steepest g.grad) ∷ [])

-- the first number of an entry of the static speed profile that is refused (own)
abbrev pub speed_refused : ℤ → SpeedStep → Option ℕ
speed_refused length_cm s = first_refused (refused keys.speed_start (is_within (pos 0) (length_cm -ℤ pos 1) s.start)
    ∷ refused keys.speed_speed (is_within (pos 1) (pos top_kmh) s.speed) ∷ [])

-- the first number of an area that is refused; its end is to be past its start (own)
abbrev pub area_refused : ℤ → Area → Option ℕ
area_refused length_cm a = first_refused (refused keys.area_start (is_within (pos 0) (length_cm -ℤ pos 1) a.start)
    ∷ refused keys.area_end (is_within (a.start +ℤ pos 1) length_cm a.end) ∷ [])

-- the first value of a list's entries that is refused, from the entry `i` on (own)
abbrev pub value_fault : {E : Type 0} → Section → (E → Option ℕ) → ℕ → List E → Option TrackFault
value_fault list key_refused i [] = None
value_fault list key_refused i (e ∷ more) =
    or_else (fault_at (λ key. Value list i key) (key_refused e)) (value_fault list key_refused (suc i) more)

-- the fault of a list with fewer than `least` or more than `most` entries (own)
abbrev pub count_fault : {E : Type 0} → Section → ℕ → ℕ → List E → Option TrackFault
count_fault list least most entries =
    if nat_le least (length entries) && nat_le (length entries) most then None else Some (Count list)

-- the fault of a list whose first entry does not start at 0 (own)
abbrev pub gap_fault : {E : Type 0} → Section → (E → ℤ) → List E → Option TrackFault
gap_fault list start [] = None
gap_fault list start (e ∷ more) = if int_lt (pos 0) (start e) then Some (Gap list) else None

-- the first entry whose start is below `past` of the entry before it, from the entry `i` on (own)
abbrev pub order_fault : {E : Type 0} → Section → (E → ℤ) → (E → ℤ) → ℕ → List E → Option TrackFault
order_fault list start past i [] = None
order_fault list start past i (e ∷ []) = None
order_fault list start past i (e ∷ next ∷ more) = if int_lt (start next) (past e) then Some (Order list (suc i))
    else order_fault list start past (suc i) (next ∷ more)

-- the fault of gradients whose starts do not rise (own)
abbrev pub gradient_order : List Gradient → Option TrackFault
gradient_order es = order_fault sections.Gradient (λ e. e.start) (λ e. e.start +ℤ pos 1) 1 es

-- the fault of entries of the static speed profile whose starts do not rise (own)
abbrev pub speed_order : List SpeedStep → Option TrackFault
speed_order es = order_fault sections.Speed (λ e. e.start) (λ e. e.start +ℤ pos 1) 1 es

-- the fault of areas that overlap (own)
abbrev pub area_order : Section → List Area → Option TrackFault
area_order list es = order_fault list (λ e. e.start) (λ e. e.end) 1 es

-- the first rule that the gradients break; a track may have no gradients (own)
unfoldable pub gradients_fault : ℤ → List Gradient → Option TrackFault
gradients_fault length_cm es =
    or_else (count_fault sections.Gradient 0 most_gradients es)
    (or_else (value_fault sections.Gradient (gradient_refused length_cm) 1 es)
    (or_else (gap_fault sections.Gradient (λ e. e.start) es) (gradient_order es)))

-- the first rule that the static speed profile breaks; it is to have an entry (own)
unfoldable pub speeds_fault : ℤ → List SpeedStep → Option TrackFault
speeds_fault length_cm es =
    or_else (count_fault sections.Speed 1 most_speeds es)
    (or_else (value_fault sections.Speed (speed_refused length_cm) 1 es)
    (or_else (gap_fault sections.Speed (λ e. e.start) es) (speed_order es)))

-- the first rule that a list of areas breaks; it may be empty (own)
unfoldable pub areas_fault : Section → ℤ → List Area → Option TrackFault
areas_fault list length_cm es = or_else (count_fault list 0 most_areas es)
    (or_else (value_fault list (area_refused length_cm) 1 es) (area_order list es))

-- the fault of a track's length, in cm, that is out of its range (own)
abbrev pub length_fault : ℤ → Option TrackFault
length_fault length_cm =
    if is_within (pos 1) (pos longest_track) length_cm then None else Some (Value sections.Track 0 keys.track_length)

-- the first rule that a track breaks: of its length, then list by list (own)
unfoldable pub track_fault : TrackData → Option TrackFault
track_fault t =
    or_else (length_fault t.length_cm)
    (or_else (gradients_fault t.length_cm t.gradients)
    (or_else (speeds_fault t.length_cm t.speeds)
    (or_else (areas_fault sections.Adhesion t.length_cm t.areas)
    (areas_fault sections.NoSpecial t.length_cm t.no_special))))
