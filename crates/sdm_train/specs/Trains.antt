-- What callers may rely on of every accepted train: no rule is broken, and what follows for its numbers and bands
-- (own).
use Rattle.std.specs.Prelude.{◌≡◌, pos, ◌≤ℤ◌, ◌<◌, ◌%◌, None, IfSome, All, length, unsigned_abs}
use Rattle.sdm_rules.specs.declared.data.Band.{Band}
use Rattle.sdm_rules.specs.Data.{TrainData, HasBands}
use Rattle.sdm_rules.specs.Ranges.{train_fault, longest_train, top_kmh}

-- the ranges of a band's numbers
pub record IsBand (b : Band) : Type 0 where
  pub upper : IfSome b.upper (λ kmh. (pos 1 ≤ℤ kmh) × (kmh ≤ℤ pos top_kmh))
  pub emergency : (pos 1 ≤ℤ b.emergency) × (b.emergency ≤ℤ pos 400)  -- cm/s²
  pub service : (pos 1 ≤ℤ b.service) × (b.service ≤ℤ pos 400)  -- cm/s²
  pub normal : (pos 1 ≤ℤ b.normal) × (b.normal ≤ℤ pos 400)  -- cm/s²
  pub kdry : (pos 1 ≤ℤ b.kdry) × (b.kdry ≤ℤ pos 1000)  -- thousandths
  pub kwet : (pos 1 ≤ℤ b.kwet) × (b.kwet ≤ℤ pos 1000)  -- thousandths
  pub kn_up : (pos 0 ≤ℤ b.kn_up) × (b.kn_up ≤ℤ pos 1000)  -- cm/s²
  pub kn_down : (pos 0 ≤ℤ b.kn_down) × (b.kn_down ≤ℤ pos 1000)  -- cm/s²
  pub emergency_reduced : IfSome b.emergency_reduced (λ cm_s2. (pos 1 ≤ℤ cm_s2) × (cm_s2 ≤ℤ b.emergency))

-- an accepted train: the ranges of its numbers, and its bands
pub record IsTrain (t : TrainData) : Type 0 where
  pub length_cm : (pos 1 ≤ℤ t.length_cm) × (t.length_cm ≤ℤ pos longest_train)
  pub max_speed : (pos 1 ≤ℤ t.max_speed) × (t.max_speed ≤ℤ pos top_kmh)  -- km/h
  pub rotating_mass : IfSome t.rotating_mass (λ percent. (pos 0 ≤ℤ percent) × (percent ≤ℤ pos 50))
  pub cut_off_time : (pos 0 ≤ℤ t.cut_off_time) × (t.cut_off_time ≤ℤ pos 300)  -- ds
  pub emergency_time : (pos 0 ≤ℤ t.emergency_time) × (t.emergency_time ≤ℤ pos 300)  -- ds
  pub service_time : (pos 0 ≤ℤ t.service_time) × (t.service_time ≤ℤ pos 300)  -- ds
  pub half_seconds : unsigned_abs t.service_time % 5 ≡ 0
  pub not_empty : 0 < length t.bands
  pub bands : HasBands t.bands
  pub each_band : All IsBand t.bands
  pub no_fault : train_fault (length t.bands) t ≡ None
