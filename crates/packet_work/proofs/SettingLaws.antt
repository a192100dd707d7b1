-- What a good list of 15h holds.
-- Assumes nothing.
use Prim.Native.Nat.{ℕ, ◌+◌}
use mathlib.Core.Bool.{true, ◌&&◌}
use mathlib.Core.List.{List}
use mathlib.Core.Path.{◌≡◌}
use lib.Dec.{eqb}
use lib.ListN.{get_or}
use Rattle.numbers.specs.Member.{is_in}
use Rattle.numbers.proofs.RuleLaws.{split}
use Rattle.packet_state.specs.States.{speeds}
use Rattle.packet_parts.specs.Replies.{device_page, device_page_length, short_list}
use Rattle.packet_work.specs.Settings.{list_speed, good_list}

pub good_speed : (list : List ℕ) → good_list list ≡ true → is_in (list_speed list) speeds ≡ true
unfolding good_list
good_speed list e =
    let heads = eqb (get_or list short_list 0) device_page && eqb (get_or list (short_list + 1) 0) device_page_length in
    (split heads (is_in (list_speed list) speeds) e).1
