-- 01's worked examples marked *, and those of 02, A2, A3, A6 and A8, computed.
-- Assumes nothing.
use native.Mathlib.Omega.{arith}
use mathlib.Core.Path.{refl}
use Rattle.numbers.specs.Member.{is_in}
use Rattle.numbers.specs.RuleList.{all_hold}
use Rattle.image.specs.Elements.{kind_of, kind_at, block_at, lay_block, lay_mark, record_to}
use Rattle.image.specs.Header.{fields_of, keeps_header_rules, header_of}
use Rattle.opcodes.specs.Commands.{stream_command}
use Rattle.transfer.specs.Marked.{marked_from}
use Rattle.transfer.specs.Reading.{stop_at, read_from}
use Rattle.transfer.specs.Spacing.{blocks_on, blocks_back, marks_on, marks_back}
use Rattle.transfer.specs.Writing.{lay_from}
use Rattle.packet_parts.specs.Answers.{ends}
use Rattle.packet_parts.specs.Replies.{first_of, reply_ends}
use Rattle.packet_parts.specs.Requests.{request_under}
use Rattle.packet_parts.specs.Shell.{carried_out, decided, answers_to}
use Rattle.packet_parts.specs.Verdicts.{found_first, verdict_by}
use Rattle.packet_work.specs.Settings.{good_list, speed_work, load_work, lock_work}
use Rattle.stream_parts.specs.Checks.{asked_by}
use Rattle.stream_parts.specs.Requests.{request_of, is_back, magnitude}
use Rattle.packet_state.specs.States.{keeps_record_rules}
use Rattle.stream.specs.Work.{ending_of, read_ends, read_work, write_ending, write_ends, write_work, mark_work, space_run, space_work, select_work}
use Rattle.stream.specs.Work.{locate_work, work_of}
use Rattle.stream_laws.specs.Demands.{PlatesPrint, EndOfDataPlates, SpeedPlates, MarkedPlates, DoorPlates, WorkBegins}

pub plates_print : PlatesPrint
unfolding answers_to decided carried_out verdict_by found_first asked_by request_of request_under is_back magnitude keeps_record_rules stream_command
    header_of keeps_header_rules fields_of all_hold is_in kind_of kind_at block_at lay_block lay_mark record_to stop_at read_from blocks_on blocks_back
    marks_on marks_back lay_from ends ending_of read_ends read_work write_ending write_ends write_work mark_work space_run space_work first_of reply_ends
    good_list speed_work select_work load_work locate_work work_of
plates_print = refl

pub end_of_data_plates : EndOfDataPlates
unfolding answers_to decided carried_out verdict_by found_first asked_by request_of request_under is_back magnitude keeps_record_rules stream_command
    header_of keeps_header_rules fields_of all_hold is_in kind_of kind_at block_at stop_at read_from blocks_on marks_on ends ending_of read_ends read_work
    space_run
    space_work locate_work work_of
end_of_data_plates = refl

pub speed_plates : SpeedPlates
unfolding answers_to decided carried_out verdict_by found_first asked_by request_of request_under keeps_record_rules stream_command keeps_header_rules fields_of
    all_hold is_in ends first_of reply_ends good_list speed_work select_work work_of
speed_plates =
    record {
      starts = refl;
      zero_set = refl;
      start_kept = refl;
      zero_kept = refl;
      asks = record { begins = record { unrefused = refl; works = refl }; mode_sense = refl; page = refl; asked = omega arith };
      sends = (record { begins = record { unrefused = refl; works = refl }; mode_select = refl; whole = refl }, refl);
    }

pub marked_plates_lem : MarkedPlates
unfolding answers_to decided carried_out verdict_by found_first asked_by request_of request_under is_back magnitude keeps_record_rules stream_command
    header_of keeps_header_rules fields_of all_hold is_in kind_of kind_at block_at lay_block record_to stop_at read_from marked_from blocks_on blocks_back
    marks_on lay_from
    ends ending_of read_ends read_work write_ending write_ends write_work space_run space_work work_of
marked_plates_lem = (refl, refl)

pub door_plates : DoorPlates
unfolding answers_to decided carried_out verdict_by found_first asked_by request_of request_under keeps_record_rules stream_command keeps_header_rules fields_of
    all_hold is_in ends first_of reply_ends load_work lock_work work_of
door_plates =
    record {
      door =
          record {
            table = refl;
            open_shown = refl;
            locked_shown = refl;
            unlocked_shown = refl;
            locks = record { passes = record { twelve = refl; good = refl; ruly = refl }; attended = refl; prevent_allow = refl };
            unloads = (
              record { passes = record { twelve = refl; good = refl; ruly = refl }; attended = refl; load_unload = refl; load_clear = refl },
              refl,
            );
            open_unloads = (
              record { passes = record { twelve = refl; good = refl; ruly = refl }; attended = refl; load_unload = refl; load_clear = refl },
              refl,
            );
            asks = record { begins = record { unrefused = refl; works = refl }; mode_sense = refl; page = refl; asked = omega arith };
          };
      field = refl;
    }

pub work_begins : WorkBegins
unfolding answers_to decided carried_out verdict_by found_first asked_by request_of request_under is_back magnitude keeps_record_rules stream_command
    header_of keeps_header_rules fields_of all_hold is_in kind_of kind_at block_at lay_block lay_mark record_to stop_at read_from blocks_on blocks_back
    marks_on marks_back lay_from ends ending_of read_ends read_work write_ending write_ends write_work mark_work space_run space_work first_of reply_ends
    good_list speed_work select_work load_work locate_work work_of
work_begins =
    record {
      read = (record { unrefused = refl; works = refl }, omega arith);
      write = (record { unrefused = refl; works = refl }, omega arith);
      filemarks = (record { unrefused = refl; works = refl }, omega arith);
      unreadable = refl;
      marked = (record { good = refl; before = omega arith; holds = refl; same = refl }, refl);
    }
