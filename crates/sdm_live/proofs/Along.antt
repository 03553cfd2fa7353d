-- Facts of histories that a peer may not tell.
use Rattle.std.proofs.Common.{Option, Some, None}
use Rattle.sdm_live.specs.Exchanges.{Along, History}

pub along_then : (a b c : Option History) (R Q T : History → History → Type 0) →
    ((h k l : History) → R h k → Q k l → T h l) → Along a b R → Along b c Q → Along a c T
along_then None None None R Q T f p q = tt
along_then None None (Some l) R Q T f p q = absurd q
along_then None (Some k) c R Q T f p q = absurd p
along_then (Some h) None None R Q T f p q = tt
along_then (Some h) None (Some l) R Q T f p q = absurd q
along_then (Some h) (Some k) None R Q T f p q = tt
along_then (Some h) (Some k) (Some l) R Q T f p q = f h k l p q

pub along_map : (a b : Option History) (R T : History → History → Type 0) →
    ((h k : History) → R h k → T h k) → Along a b R → Along a b T
along_map None None R T f p = tt
along_map None (Some k) R T f p = absurd p
along_map (Some h) None R T f p = tt
along_map (Some h) (Some k) R T f p = f h k p

pub along_self : (a : Option History) (T : History → History → Type 0) → ((h : History) → T h h) → Along a a T
along_self None T f = tt
along_self (Some h) T f = f h

pub along_both : (a b : Option History) (R Q T : History → History → Type 0) →
    ((h k : History) → R h k → Q h k → T h k) → Along a b R → Along a b Q → Along a b T
along_both None None R Q T f p q = tt
along_both None (Some k) R Q T f p q = absurd p
along_both (Some h) None R Q T f p q = tt
along_both (Some h) (Some k) R Q T f p q = f h k p q
