-- The text of rows and of fault lines.
use Rattle.std.proofs.Common.{◌≡◌, refl}
use Rattle.std.specs.Prelude.{pos, negsuc, true, false, [], ◌∷◌, Some, None, codes, map}
use Rattle.std.specs.Fmt.{digits}
use Rattle.sdm_rules.specs.declared.commands.State.TheVariants.{T}
use Rattle.sdm_rules.specs.declared.commands.Status.TheVariants.{W}
use Rattle.sdm_rules.specs.declared.data.SlopeKind.TheVariants.{Safe}
use Rattle.sdm_rules.specs.declared.faults.Section.TheVariants as sections
use Rattle.sdm_rules.specs.declared.faults.TrainFault.TheVariants as train_faults
use Rattle.sdm_rules.specs.declared.faults.TrackFault.TheVariants as track_faults
use Rattle.sdm_rules.specs.declared.faults.EventFault.TheVariants as event_faults
use Rattle.sdm_rules.specs.declared.faults.FieldFault.TheVariants.{NotNumber}
use Rattle.sdm_rules.specs.declared.faults.EventCause.TheVariants as causes
use Rattle.sdm_rules.specs.declared.faults.OpenFault.TheVariants as open_faults
use Rattle.sdm_formats.specs.declared.faults.DataFault.TheVariants as data_faults
use Rattle.sdm_formats.specs.Text.{row_text}
use Rattle.sdm_formats.specs.declared.faults.DriveCause.TheVariants.{ShortBuild}
use Rattle.sdm_formats.specs.Input.{Data, Undrivable, Refused, BadEvent}
use Rattle.sdm_formats.specs.FaultLines.{end_line, fault_line, data_text, open_text, cause_text, form_text, field_text}
use Rattle.sdm_formats.specs.FaultLines.{train_text, track_text, kind_text, section_path, list_path, key_path}
use Rattle.sdm_formats.specs.FaultLines.{key_names}

a_row : row_text (record {
  time = 0;
  state = T;
  held = record { tco = true; sb = false; eb = false; status = W };
  covered = true;
  ceiling = 160;
  ebi = Some (pos 800_000);
  sbi = Some (pos 800_000);
  warning = None;
  permitted = Some (pos 720_000);
  indication = Some (negsuc 0);
})
    ≡ codes "0,T,W,1,0,0,1,160,800000,800000,-,720000,-1\n"
unfolding row_text digits
a_row = refl

unknown_key_line : end_line (Data (data_faults.UnknownKey sections.Band 1))
    ≡ codes "sdm: bad data: unknown key in train.band[1]\n"
unfolding end_line fault_line data_text section_path list_path digits
unknown_key_line = refl

missing_key_line : end_line (Data (data_faults.Missing (record { section = sections.Gradient; index = 2; key = 2 })))
    ≡ codes "sdm: bad data: missing track.gradient[2].grad\n"
unfolding end_line fault_line data_text key_path key_names section_path list_path digits
missing_key_line = refl

-- a key of root is its name alone; a number that names no key leaves the section's path
key_paths : map (λ key. key_path sections.Root 0 key) (1 ∷ []) ≡ codes "version" ∷ []
unfolding key_path key_names
key_paths = refl

path_without_key : key_path sections.Train 0 77 ≡ codes "train"
unfolding key_path key_names section_path list_path
path_without_key = refl

band_order_line : end_line (Data (data_faults.Train (train_faults.BandOrder 2)))
    ≡ codes "sdm: bad data: band order train.band[2]\n"
unfolding end_line fault_line data_text train_text list_path digits
band_order_line = refl

gap_line : end_line (Data (data_faults.Track (track_faults.Gap sections.Speed)))
    ≡ codes "sdm: bad data: gap track.speed\n"
unfolding end_line fault_line data_text track_text list_path
gap_line = refl

too_weak_line : end_line (Refused (open_faults.TooWeak Safe 1 (pos 90_000) (pos 7)))
    ≡ codes "sdm: refused: too weak: safe band 1 cell 90000\n"
unfolding end_line fault_line open_text kind_text digits
too_weak_line = refl

field_line : end_line (BadEvent 1 (causes.Form (event_faults.Field 8 NotNumber)))
    ≡ codes "sdm: bad event 1: field 8: not a number\n"
unfolding end_line fault_line cause_text form_text field_text digits
field_line = refl

short_build_line : end_line (Undrivable ShortBuild) ≡ codes "sdm: not drivable: emergency time\n"
unfolding end_line fault_line
short_build_line = refl
