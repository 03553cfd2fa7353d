-- Data that break no rule make a train whose bands are in order.
use Rattle.std.proofs.Common.{◌≡◌}
use Rattle.std.specs.Prelude.{Ok}
use Rattle.toml.specs.Data.{Members}
use Rattle.sdm_rules.specs.declared.authorities.Authority.{Authority}
use Rattle.sdm_rules.specs.Data.{TrainAndTrack, HasBands}
use Rattle.sdm_train.proofs.Accepted.{IsTrain_of}
use Rattle.sdm_data.specs.Journey.{data_of}
use Rattle.sdm_data.proofs.ReadData.{accepted}

-- the bands of data that break no rule are in order
pub has_bands : (table : Members) (d : TrainAndTrack) (a : Authority) → data_of table ≡ Ok (d, a) →
    HasBands d.train.bands
has_bands table d a read = (IsTrain_of d.train (accepted table d a read).train).bands
