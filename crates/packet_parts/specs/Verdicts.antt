-- What is judged before the work: "attention, opcode, fields, not ready, protection, 4"; 02, A8: "53/02 stands after the fields check of 1Bh".
-- Assumes nothing.
use Rattle.std.specs.Prelude.{ℕ, Bool, true, false, not, ◌&&◌, ◌||◌, if◌then◌else◌}
use Rattle.numbers.specs.Choice.{◌≡ᵇ◌, ◌<ᵇ◌}
use Rattle.numbers.specs.declared.refusals.Refusal.TheVariants.{ShortBuffer}
use Rattle.image.specs.declared.header.Header.{Header}
use Rattle.packet_state.specs.declared.state.Attention.{Attention}
use Rattle.packet_state.specs.declared.state.Attention.TheVariants.{Nothing, MediumChanged, Reset}
use Rattle.packet_state.specs.declared.state.State.{State}
use Rattle.packet_state.specs.declared.state.Verdict.{Verdict}
use Rattle.packet_state.specs.declared.state.Verdict.TheVariants.{Refuses, Ends, Works}
use Rattle.packet_state.specs.Senses.{unit_attention, invalid_opcode, invalid_field, wrong_list_length, removal_prevented, not_loaded, write_protected}
use Rattle.packet_parts.specs.declared.verdicts.Asked.{Asked}

abbrev pub is_protected : Header → Bool
is_protected h = h.protect ≡ᵇ 1

-- ---- what a command asks before its work

-- a first byte that is no command of the device
abbrev pub no_command : Asked
no_command =
    record { known = false; exempt = false; field = false; length = false; unloads = false; mounted = false; stores = false; needed = 0 }

-- 03h and 12h: "A pending attention ends any packet but 03h and 12h"
abbrev pub always : ℕ → Asked
always needed =
    record { known = true; exempt = true; field = false; length = false; unloads = false; mounted = false; stores = false; needed = needed }

-- 15h, 1Ah and 1Eh, without a cartridge too: "Not loaded 2/3A/00, for all but 03h, 12h, 15h, 1Ah, 1Bh"; 02, A8: "1Eh has no not-ready check"
abbrev pub settings : Bool → Bool → ℕ → Asked
settings field length needed =
    record { known = true; exempt = false; field = field; length = length; unloads = false; mounted = false; stores = false; needed = needed }

-- 1Bh, without a cartridge too; 02, A8: "Unloading while locked ends with 5/53/02"
abbrev pub loading : Bool → Bool → Asked
loading field unloads =
    record { known = true; exempt = false; field = field; length = false; unloads = unloads; mounted = false; stores = false; needed = 0 }

-- 00h, 01h, 08h, 11h, 2Bh and 34h
abbrev pub on_tape : Bool → ℕ → Asked
on_tape field needed =
    record { known = true; exempt = false; field = field; length = false; unloads = false; mounted = true; stores = false; needed = needed }

-- 0Ah and 10h: "Write protected 7/27/00, for 0Ah and 10h"
abbrev pub storing : Bool → ℕ → Asked
storing field needed =
    record { known = true; exempt = false; field = field; length = false; unloads = false; mounted = true; stores = true; needed = needed }

-- ---- what can end a packet, or refuse it, before its work

-- "A pending attention ends any packet but 03h and 12h"
abbrev pub is_held : Attention → Bool → Bool
is_held Nothing exempt = false
is_held MediumChanged exempt = not exempt
is_held Reset exempt = not exempt

-- "Packet order: 1, 2, 3, attention, opcode, fields, not ready, protection, 4, list contents, the work.": the first of these that holds; 02, A8: "53/02 stands
-- after the fields check of 1Bh"
unfoldable pub found_first : Attention → Bool → Bool → Bool → Bool → Bool → Bool → Bool → Bool → Verdict
found_first attention held unknown field length barred absent kept short =
    if held then Ends (unit_attention attention) else
    if unknown then Ends invalid_opcode else
    if field then Ends invalid_field else
    if length then Ends wrong_list_length else
    if barred then Ends removal_prevented else
    if absent then Ends not_loaded else
    if kept then Ends write_protected else
    if short then Refuses ShortBuffer else
    Works

unfoldable pub verdict_by : Asked → Bool → State → ℕ → Verdict
verdict_by a protected st room =
    found_first st.attention
    (is_held st.attention a.exempt)
    (not a.known)
    a.field
    a.length
    (a.unloads && st.locked)
    (a.mounted && not st.loaded)
    (a.stores && protected)
    (room <ᵇ a.needed)

-- one of the first seven: it ends the packet before refusal 4 is looked at
unfoldable pub ends_early : Asked → Bool → State → Bool
ends_early a protected st =
    is_held st.attention a.exempt
    || not a.known
    || a.field
    || a.length
    || (a.unloads && st.locked)
    || (a.mounted && not st.loaded)
    || (a.stores && protected)
