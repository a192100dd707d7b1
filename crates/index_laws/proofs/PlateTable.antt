-- The plates of the index, computed.
-- Assumes nothing.
use mathlib.Core.Path.{refl}
use Rattle.numbers.specs.Member.{is_in}
use Rattle.numbers.specs.RuleList.{all_hold}
use Rattle.image.specs.Elements.{kind_of, kind_at, lay_block, lay_mark, record_to}
use Rattle.image.specs.Header.{fields_of, keeps_header_rules}
use Rattle.opcodes.specs.Commands.{stream_command}
use Rattle.transfer.specs.Spacing.{marks_on, marks_back}
use Rattle.transfer.specs.Writing.{lay_from}
use Rattle.packet_parts.specs.Answers.{ends}
use Rattle.packet_parts.specs.Requests.{request_under}
use Rattle.packet_parts.specs.Shell.{carried_out, decided, answers_to}
use Rattle.packet_parts.specs.Verdicts.{found_first, verdict_by}
use Rattle.packet_state.specs.States.{keeps_record_rules}
use Rattle.stream_parts.specs.Checks.{asked_by}
use Rattle.stream_parts.specs.Requests.{request_of, is_back, magnitude}
use Rattle.stream.specs.Work.{ending_of, write_ending, write_ends, write_work, mark_work, space_run, space_work, work_of}
use Rattle.index.specs.Entries.{marks_from, filemarks_of, entries_of, fresh_index, is_fresh}
use Rattle.index.specs.Keeping.{makes, indexed_step}
use Rattle.index_laws.specs.Demands.{IndexPlates}

pub index_plates : IndexPlates
unfolding makes indexed_step is_fresh fresh_index entries_of filemarks_of marks_from
    answers_to decided carried_out verdict_by found_first asked_by request_of request_under is_back magnitude keeps_record_rules stream_command
    keeps_header_rules fields_of all_hold is_in kind_of kind_at lay_block lay_mark record_to marks_on marks_back lay_from
    ends ending_of write_ending write_ends write_work mark_work space_run space_work work_of
index_plates = (refl, refl)
