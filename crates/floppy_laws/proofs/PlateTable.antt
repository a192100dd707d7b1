-- The plates of 02, A1, A2, A6 and A8, computed.
-- Assumes nothing.
use native.Mathlib.Omega.{arith}
use mathlib.Core.Path.{refl}
use Rattle.numbers.specs.Member.{is_in}
use Rattle.numbers.specs.RuleList.{all_hold}
use Rattle.image.specs.Elements.{kind_of, kind_at, block_at, lay_block}
use Rattle.image.specs.Header.{fields_of, keeps_header_rules}
use Rattle.opcodes.specs.Commands.{floppy_command}
use Rattle.transfer.specs.Marked.{marked_from}
use Rattle.transfer.specs.Reading.{stop_at, read_from}
use Rattle.transfer.specs.Writing.{lay_from}
use Rattle.packet_state.specs.States.{keeps_record_rules}
use Rattle.packet_parts.specs.Answers.{ends}
use Rattle.packet_parts.specs.Replies.{first_of, reply_ends}
use Rattle.packet_parts.specs.Requests.{request_under}
use Rattle.packet_parts.specs.Shell.{carried_out, decided, answers_to}
use Rattle.packet_parts.specs.Verdicts.{found_first, verdict_by}
use Rattle.packet_work.specs.Settings.{good_list, speed_work, load_work, lock_work}
use Rattle.floppy_parts.specs.Checks.{asked_by}
use Rattle.floppy_parts.specs.Headers.{is_full}
use Rattle.floppy_parts.specs.Requests.{floppy_request}
use Rattle.floppy_parts.specs.Rules.{keeps_floppy_rules}
use Rattle.floppy_parts.specs.Tape.{product, reset_tape, listed_tape}
use Rattle.floppy_parts.specs.Settings.{good_tape_list, selected_tape, loaded_tape, tape_after}
use Rattle.floppy.specs.Packet.{mounted}
use Rattle.floppy.specs.Work.{read_ending, read_ends, read_work, write_ending, write_ends, write_work, place_under, tape_work, select_work, work_of}
use Rattle.floppy_laws.specs.Demands.{PlatesPrint, SpeedPlates, MarkedPlates, DoorPlates, WorkBegins}

pub plates_print : PlatesPrint
unfolding answers_to decided carried_out verdict_by found_first asked_by floppy_request request_under keeps_record_rules keeps_floppy_rules floppy_command
    is_full keeps_header_rules fields_of all_hold is_in kind_of kind_at block_at lay_block stop_at read_from lay_from ends read_ending read_ends read_work
    write_ending write_ends write_work first_of reply_ends good_list speed_work load_work product reset_tape listed_tape good_tape_list place_under tape_work
    select_work work_of selected_tape loaded_tape tape_after
plates_print = refl

pub speed_plates : SpeedPlates
unfolding answers_to decided carried_out verdict_by found_first asked_by floppy_request request_under keeps_record_rules keeps_floppy_rules floppy_command
    is_full keeps_header_rules fields_of all_hold is_in ends first_of reply_ends good_list speed_work product reset_tape select_work work_of
    selected_tape tape_after mounted
speed_plates =
    record {
      starts = refl;
      zero_set = refl;
      start_kept = refl;
      zero_kept = refl;
      asks = record { begins = record { unrefused = refl; works = refl }; mode_sense = refl; page = refl; asked = omega arith };
      sends = (record { begins = record { unrefused = refl; works = refl }; mode_select = refl; whole = refl }, refl);
    }

pub marked_plates_lem : MarkedPlates
unfolding answers_to decided carried_out verdict_by found_first asked_by floppy_request request_under keeps_record_rules keeps_floppy_rules floppy_command
    is_full keeps_header_rules fields_of all_hold is_in kind_of kind_at block_at lay_block stop_at read_from marked_from lay_from ends read_ending read_ends
    read_work write_ending write_ends write_work product reset_tape listed_tape work_of tape_after
marked_plates_lem = record { clear = refl; deleting = refl; set = refl }

pub door_plates : DoorPlates
unfolding answers_to decided carried_out verdict_by found_first asked_by floppy_request request_under keeps_record_rules keeps_floppy_rules floppy_command
    is_full keeps_header_rules fields_of all_hold is_in ends first_of reply_ends load_work lock_work product reset_tape work_of loaded_tape tape_after mounted
door_plates =
    record {
      table = refl;
      open_shown = refl;
      locked_shown = refl;
      unlocked_shown = refl;
      locks = record { passes = record { twelve = refl; good = refl; ruly = refl }; attended = refl; prevent_allow = refl };
      unloads = (
        record { passes = record { twelve = refl; good = refl; ruly = refl }; attended = refl; load_unload = refl; load_clear = refl },
        refl,
      );
      open_unloads = (
        record { passes = record { twelve = refl; good = refl; ruly = refl }; attended = refl; load_unload = refl; load_clear = refl },
        refl,
      );
      asks = record { begins = record { unrefused = refl; works = refl }; mode_sense = refl; page = refl; asked = omega arith };
    }

pub work_begins : WorkBegins
unfolding answers_to decided carried_out verdict_by found_first asked_by floppy_request request_under keeps_record_rules keeps_floppy_rules floppy_command
    is_full keeps_header_rules fields_of all_hold is_in kind_of kind_at block_at lay_block stop_at read_from lay_from ends read_ending read_ends read_work
    write_ending write_ends write_work first_of reply_ends good_list speed_work load_work product reset_tape listed_tape good_tape_list place_under tape_work
    select_work work_of selected_tape loaded_tape tape_after
work_begins =
    record {
      read = (record { unrefused = refl; works = refl }, omega arith);
      write = (record { unrefused = refl; works = refl }, omega arith);
      taken = (record { unrefused = refl; works = refl }, record { code = refl; after = refl; within = omega arith });
      left = (record { unrefused = refl; works = refl }, λ t. omega (arith, t.within));
      marked = (record { good = refl; before = omega arith; holds = refl; same = refl }, refl);
    }
