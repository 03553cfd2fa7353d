-- An input has one meaning: each part of it is read in one way, and the opening is decided in one way.
use Rattle.std.proofs.Common.{◌≡◌, ℕ, Bool, true, false, nat_lt, List, [], Option, Some, None, length, take, drop}
use Rattle.std.proofs.Common.{refl, inl, inr}
use Rattle.std.specs.Prelude.{◌⊎◌, MatchBool, Result, Ok, Err}
use Rattle.sdm_rules.specs.declared.authorities.Authority.{Authority}
use Rattle.sdm_rules.specs.declared.faults.OpenFault.{OpenFault}
use Rattle.sdm_rules.specs.Data.{TrainAndTrack}
use Rattle.sdm_rules.specs.Records.{Turn}
use Rattle.sdm_rules.specs.Opening.{IsAccepted, IsOpenFault}
use Rattle.sdm_formats.specs.declared.faults.DataFault.{DataFault}
use Rattle.sdm_formats.specs.Input.{Reader, End, TooLong, NoSplit, Toml, Data, Refused, end_of_journey, journey_of}
use Rattle.sdm_formats.specs.Input.{IsAfterData, IsAfterDocument, IsAfterDivision, most_bytes}
use Rattle.sdm_laws.proofs.Openings.Decided.{decided}
use Rattle.sdm_laws.proofs.Openings.OneFault.{not_both, one_fault}
use Rattle.sdm_run.specs.RunLaws.{HasOneRun}

-- there are turns and an end with P, and no others
abbrev Meaning : (List Turn → End → Type 0) → Type 0
Meaning P = (turns : List Turn) × ((end : End)
    × (P turns end × ((turns' : List Turn) (end' : End) → P turns' end' → (turns' ≡ turns) × (end' ≡ end))))

-- no turns, and one end
ends : (end : End) → Meaning (λ turns e. (turns ≡ []) × (e ≡ end))
ends end = ([], (end, ((refl, refl), λ turns' end' h. h)))

module _ {Table Fields : Type 0} (reader : Reader Table Fields) where
  -- after data that are accepted or have a fault: the turns of the journey, or none
  opened : (d : TrainAndTrack) (a : Authority) (records : List Fields) →
      IsAccepted d a ⊎ ((fault : OpenFault) × IsOpenFault d a fault) →
      Meaning (λ turns end. IsAfterData reader turns end records (Ok (d, a)))
  opened d a records (inl accepted) =
      let journey = journey_of reader d a records in (
        journey.turns,
        (
          end_of_journey journey.refused,
          (
            inl (record { accepted = accepted; turns_are = refl; end_is = refl }),
            λ turns' end' h. elim h [
              | inl o ↦ (o.turns_are, o.end_is)
              | inr f ↦ absurd (not_both d a f.0 accepted f.1)
            ],
          ),
        ),
      )
  opened d a records (inr w) = (
    [],
    (
      Refused w.0,
      (
        inr (w.0, w.1, refl, refl),
        λ turns' end' h. elim h [
          | inl o ↦ absurd (not_both d a w.0 o.accepted w.1)
          | inr f ↦ (let same = one_fault d a f.0 w.0 f.1 w.1 in (f.2, (let e = f.3 in cc)))
        ],
      ),
    ),
  )

  -- whatever the data come to, accepted or refused, there is one meaning
  after_data : (records : List Fields) (r : Result (TrainAndTrack × Authority) DataFault) →
      Meaning (λ turns end. IsAfterData reader turns end records r)
  after_data records (Err fault) = ends (Data fault)
  after_data records (Ok x) = opened x.0 x.1 records (decided x.0 x.1)

  -- after the document, there or not
  after_document : (records : List Fields) (o : Option Table) →
      Meaning (λ turns end. IsAfterDocument reader turns end records o)
  after_document records None = ends Toml
  after_document records (Some table) = after_data records (reader.data_of table)

  -- after the division of the input, found or not
  after_division : (bytes : List ℕ) (o : Option (ℕ × ℕ)) →
      Meaning (λ turns end. IsAfterDivision reader turns end bytes o)
  after_division bytes None = ends NoSplit
  after_division bytes (Some x) = after_document (reader.records (drop x.1 bytes)) (reader.document (take x.0 bytes))

  -- of an input that is too long or not
  from_length : (bytes : List ℕ) (long : Bool) → Meaning (λ turns end.
      MatchBool long ((turns ≡ []) × (end ≡ TooLong)) (IsAfterDivision reader turns end bytes (reader.divide bytes)))
  from_length bytes true = ends TooLong
  from_length bytes false = after_division bytes (reader.divide bytes)

  -- all bytes have one meaning
  pub one_run : (bytes : List ℕ) → HasOneRun reader bytes
  one_run bytes = let m = from_length bytes (nat_lt most_bytes (length bytes)) in record {
    turns = m.0;
    end = m.1.0;
    is = m.1.1.0;
    only = m.1.1.1;
  }
