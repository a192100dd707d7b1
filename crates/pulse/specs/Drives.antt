-- The drive record: at power-on, and with one part replaced.
-- Assumes nothing.
use Rattle.std.specs.Prelude.{ℕ, Bool, false, Option, None}
use Rattle.pulse_codes.specs.declared.arguments.Waiting.{Waiting}
use Rattle.pulse_parts.specs.declared.cartridge.Cartridge.{Cartridge}
use Rattle.pulse_parts.specs.declared.fault.Fault.{Fault}
use Rattle.pulse_parts.specs.declared.head.Head.{Head}
use Rattle.pulse_parts.specs.declared.marks.Marks.{Marks}
use Rattle.pulse_parts.specs.declared.reports.Report.{Report}
use Rattle.pulse_parts.specs.Cartridges.{no_cartridge}
use Rattle.pulse_parts.specs.Faults.{power_on_fault}
use Rattle.pulse_parts.specs.Heads.{at_start, is_still}
use Rattle.pulse_parts.specs.Marking.{no_marks}
use Rattle.pulse_parts.specs.Reports.{no_report}
use Rattle.pulse.specs.declared.drive.Drive.{Drive}

-- the rate at power-on (000, table 2b: 500 Kbps)
abbrev pub power_on_rate : ℕ
power_on_rate = 2

-- 01: "Power-on: no cartridge, error 26 with command 0, rate 2, level 0, given vendor (16 bits) and ROM (8 bits)."
unfoldable pub power_on : ℕ → ℕ → Drive
power_on vendor rom =
    record {
      cart = no_cartridge;
      head = at_start;
      marks = no_marks;
      fault = power_on_fault;
      report = no_report;
      waiting = None;
      rate = power_on_rate;
      level = false;
      vendor = vendor;
      rom = rom;
    }

-- 01: "Ready means not moving."
abbrev pub is_ready : Drive → Bool
is_ready d = is_still d.head.motion

-- a drive of its ten parts
abbrev pub drive_of : Cartridge → Head → Marks → Fault → Report → Option Waiting → ℕ → Bool → ℕ → ℕ → Drive
drive_of cart head marks fault report waiting rate level vendor rom =
    record {
      cart = cart;
      head = head;
      marks = marks;
      fault = fault;
      report = report;
      waiting = waiting;
      rate = rate;
      level = level;
      vendor = vendor;
      rom = rom;
    }

-- the drive with one part replaced
abbrev pub with_head : Drive → Head → Drive
with_head d x = drive_of d.cart x d.marks d.fault d.report d.waiting d.rate d.level d.vendor d.rom

abbrev pub with_marks : Drive → Marks → Drive
with_marks d x = drive_of d.cart d.head x d.fault d.report d.waiting d.rate d.level d.vendor d.rom

abbrev pub with_fault : Drive → ℕ → ℕ → Drive
with_fault d error command =
    drive_of d.cart d.head d.marks record { error = error; command = command } d.report d.waiting d.rate d.level
    d.vendor d.rom

abbrev pub with_report : Drive → Report → Drive
with_report d x = drive_of d.cart d.head d.marks d.fault x d.waiting d.rate d.level d.vendor d.rom

abbrev pub with_waiting : Drive → Option Waiting → Drive
with_waiting d x = drive_of d.cart d.head d.marks d.fault d.report x d.rate d.level d.vendor d.rom

abbrev pub without_arguments : Drive → Drive
without_arguments d = with_waiting d None

abbrev pub with_rate : Drive → ℕ → Drive
with_rate d x = drive_of d.cart d.head d.marks d.fault d.report d.waiting x d.level d.vendor d.rom

abbrev pub with_level : Drive → Bool → Drive
with_level d x = drive_of d.cart d.head d.marks d.fault d.report d.waiting d.rate x d.vendor d.rom
