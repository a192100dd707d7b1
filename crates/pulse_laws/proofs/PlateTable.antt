-- The tables of plates, computed.
-- Assumes nothing.
use mathlib.Core.Path.{refl}
use Rattle.numbers.specs.Member.{is_in}
use Rattle.pulse_codes.specs.Arguments.{needed, nibble_of}
use Rattle.pulse.specs.Arguments.{argument_read, argument_taken, nibble_taken, skipped, step_argument, track_sought}
use Rattle.pulse.specs.Calls.{insert_call, train_call}
use Rattle.pulse.specs.Commands.{checked, obeyed, step_command}
use Rattle.pulse.specs.Drives.{power_on}
use Rattle.pulse.specs.Events.{inserted}
use Rattle.pulse.specs.Motions.{latched, load_started, run_started}
use Rattle.pulse.specs.Reports.{error_read, item_given, report_of, status_asked, step_open_report, step_report}
use Rattle.pulse.specs.Rules.{cartridge_fits, keeps_rules}
use Rattle.pulse.specs.Train.{step_reset, step_unsupported, train_step}
use Rattle.pulse.specs.Trains.{after_list, levels_of, trains_call}
use Rattle.pulse_laws.specs.Demands.{PlatesPrint}
use Rattle.pulse_laws.specs.ListPlates.{all_answer, answers_as}
use Rattle.pulse_laws.specs.Lists.{ListPlatesAnswer}
use Rattle.pulse_laws.specs.Plates.{all_print, prints}
use Rattle.pulse_laws.specs.Runs.{after_trains, answers}

pub plates_print : PlatesPrint
unfolding after_trains answers all_print prints power_on insert_call inserted load_started train_call keeps_rules cartridge_fits is_in
    train_step step_reset step_argument argument_read argument_taken track_sought nibble_of needed nibble_taken skipped run_started
    step_report item_given step_unsupported latched step_open_report report_of status_asked error_read step_command checked obeyed
plates_print = refl

pub list_plates_answer : ListPlatesAnswer
unfolding trains_call after_list levels_of all_answer answers_as after_trains power_on
    insert_call inserted load_started train_call keeps_rules cartridge_fits is_in
    train_step step_reset step_argument argument_read argument_taken track_sought nibble_of needed nibble_taken skipped run_started
    step_report item_given step_unsupported latched step_open_report report_of status_asked error_read step_command checked obeyed
list_plates_answer = refl
