-- What the forms of `readout` stand for: document 01's number of a field or of a refusal, or its values.
-- Assumes nothing.
use Rattle.std.specs.Prelude.{◌∷◌}
use Rattle.laws.specs.Words.{ℕ, List, [], Float}
use Rattle.model.specs.Samples.{degrees, volts, milliwatts, milliamperes}
use Rattle.model.specs.Readout.{Measured, measured, nothing}
use Rattle.model.specs.Outcomes.{Told, refused, given}
use Rattle.refusal.specs.Numbers.{number}
use Rattle.readout.specs.declared.Page.{Page}
use Rattle.readout.specs.declared.Page.TheVariants.{Live, Factory}
use Rattle.readout.specs.declared.fields.Field.{Field}
use Rattle.readout.specs.declared.fields.Field.TheVariants.{VendorName, VendorOui, PartNumber, Revision, SerialNumber, DateCode}
use Rattle.readout.specs.declared.Monitored as monitored
use Rattle.readout.specs.declared.Monitored.TheVariants as monitors
use Rattle.readout.specs.declared.FourLimits.{FourLimits}

abbrev pub page_number : Page → ℕ
page_number = elim [ Live ↦ 1 | Factory ↦ 2 ]

abbrev pub field_number : Field → ℕ
field_number = elim [ VendorName ↦ 1 | VendorOui ↦ 2 | PartNumber ↦ 3 | Revision ↦ 4 | SerialNumber ↦ 5 | DateCode ↦ 6 ]

abbrev pub monitor_says : monitored.Monitored → Told Measured
monitor_says (monitors.Degrees x) = given (measured degrees x)
monitor_says (monitors.Volts x) = given (measured volts x)
monitor_says (monitors.Milliwatts x) = given (measured milliwatts x)
monitor_says (monitors.Milliamperes x) = given (measured milliamperes x)
monitor_says monitors.Nothing = given nothing
monitor_says (monitors.Refused r) = refused (number r)

-- "high alarm, low alarm, high warning, low warning"
abbrev pub four : FourLimits → List Float
four x = x.high_alarm ∷ x.low_alarm ∷ x.high_warning ∷ x.low_warning ∷ []
