-- The speed through a packet, of any device whose work keeps it.
-- Assumes nothing.
use Rattle.std.specs.Prelude.{if◌then◌else◌}
use Prim.Native.Nat.{ℕ, ◌+◌, ◌≤◌}
use native.Mathlib.Omega.{arith}
use mathlib.Core.Bool.{Bool, true, false, not, false≢true}
use mathlib.Core.List.{List}
use mathlib.Core.Logic.{◌↔◌}
use mathlib.Core.Path.{◌≡◌, refl, ap, ◌∙◌}
use Rattle.numbers.specs.Member.{is_in}
use Rattle.numbers.proofs.CountLaws.{count_by_bytes}
use Rattle.image.specs.declared.header.Header.{Header}
use Rattle.image.specs.Header.{fields_of}
use Rattle.opcodes.specs.declared.Command.TheVariants.{ModeSelect}
use Rattle.packet_state.specs.Answers.{Good, Check, accepted}
use Rattle.packet_state.specs.declared.state.Outcome.{Outcome}
use Rattle.packet_state.specs.declared.state.State.{State}
use Rattle.packet_state.specs.Senses.{wrong_list}
use Rattle.packet_state.specs.States.{speeds, with_speed}
use Rattle.packet_state.proofs.RecordLaws.{speed_most}
use Rattle.packet_parts.specs.declared.requests.Request.{Request}
use Rattle.packet_parts.specs.Answers.{Left, ends, good_status}
use Rattle.packet_parts.specs.Replies.{short_list, full_list}
use Rattle.packet_parts.specs.Shell.{Device, answers_to}
use Rattle.packet_work.specs.Replies.{device_mode}
use Rattle.packet_work.specs.Settings.{list_speed, good_list, speed_work}
use Rattle.packet_laws.specs.Promises.{SpeedFollows}
use Rattle.packet_laws.specs.Words.{status_of, AsksSpeed, SendsSpeed, Working}
use Rattle.packet_laws.proofs.Pages.{GivesPage, meant, page_at}
use Rattle.packet_laws.proofs.Records.{KeepsRecord, packet_keeps}
use Rattle.packet_laws.proofs.Refusals.{begins-passes, begins-work}

-- ---- the list that 1Ah gives

page_speed : (h : Header) (st : State) (byte4 unit : ℕ) → st.speed ≤ 500 → list_speed (device_mode h st byte4 unit) ≡ st.speed
page_speed h st byte4 unit l = omega arith

-- ---- the list that 15h takes, good or wrong

module _ (st : State) (list : List ℕ) where
  abbrev by_test : Bool → Outcome State
  by_test good = if not good then ends st (Check wrong_list) 0 0 else ends (with_speed st (list_speed list)) Good 0 full_list

  taken_by : (good : Bool) → ((by_test good).answer.status ≡ good_status) ↔ (good ≡ true)
  unfolding ends
  taken_by true = ((λ e. refl), (λ e. refl))
  taken_by false = ((λ e. absurd (omega arith)), (λ e. absurd (false≢true e)))

  pub list_taken : ((speed_work st list).answer.status ≡ good_status) ↔ (good_list list ≡ true)
  unfolding speed_work
  list_taken = taken_by (good_list list)

  pub list_set : good_list list ≡ true → (speed_work st list).state.speed ≡ list_speed list
  unfolding speed_work ends
  list_set e = rw e

-- ---- a device whose work keeps the speed

-- its work gives the record's page 2Ah, does with a list of 32 bytes what 01 has, and leaves the speed otherwise
pub record KeepsSpeed {R : Type 0} (d : Device R) : Type 0 where
  pub page : GivesPage d
  pub stays : KeepsRecord d
  pub ruled : (h : Header) (st : R) → d.keeps_rules h st ≡ true → is_in (d.shared st).speed speeds ≡ true
  pub answers : (s : List ℕ) (h : Header) (st : R) (q : Request) (list : List ℕ) → q.command ≡ ModeSelect → q.length ≡ full_list
      → (d.work s h st q list).answer ≡ accepted (speed_work (d.shared st) list).answer
  pub takes : (s : List ℕ) (h : Header) (st : R) (q : Request) (list : List ℕ) → q.command ≡ ModeSelect → q.length ≡ full_list
      → d.shared (d.work s h st q list).state ≡ (speed_work (d.shared st) list).state

-- ---- any packet

module _ {R : Type 0} (d : Device R) (keeps : KeepsSpeed d) (s : List ℕ) (st : R) (packet buf : List ℕ) where
  told : AsksSpeed d s st packet buf → list_speed (answers_to d s st packet buf).buf ≡ (d.shared st).speed
  told t =
      let few = speed_most (d.shared st).speed (keeps.ruled (fields_of s) st (begins-passes d s st packet buf t.begins).ruly) in
      count_by_bytes (answers_to d s st packet buf).buf (meant d keeps.page s st packet buf) (short_list + 14) 2
      (λ i a b. page_at d keeps.page s st packet buf t i (omega arith) (omega arith))
      ∙ page_speed (fields_of s) (d.shared st) (keeps.page.byte4 st) (keeps.page.unit st) few

  module _ (t : SendsSpeed d s st packet buf) where
    answered : (answers_to d s st packet buf).answer ≡ accepted (speed_work (d.shared st) buf).answer
    answered =
        ap (λ (x : Left R). x.answer) (begins-work d s st packet buf t.begins)
        ∙ keeps.answers s (fields_of s) st (d.request packet) buf t.mode_select t.whole

    left : d.shared (answers_to d s st packet buf).state ≡ (speed_work (d.shared st) buf).state
    left =
        ap (λ (x : Left R). d.shared x.state) (begins-work d s st packet buf t.begins)
        ∙ keeps.takes s (fields_of s) st (d.request packet) buf t.mode_select t.whole

    taken : (status_of (answers_to d s st packet buf) ≡ good_status) ↔ (good_list buf ≡ true)
    taken = rw answered (list_taken (d.shared st) buf)

    set : good_list buf ≡ true → (d.shared (answers_to d s st packet buf).state).speed ≡ list_speed buf
    set g = rw left (list_set (d.shared st) buf g)

  kept : Working d → (SendsSpeed d s st packet buf → good_list buf ≡ true → ⊥)
      → (d.shared (answers_to d s st packet buf).state).speed ≡ (d.shared st).speed
  kept working f =
      packet_keeps d working keeps.stays s st packet buf (λ x. x.speed ≡ (d.shared st).speed) refl (λ x. refl) (λ b.
      (keeps.stays.keeps s (fields_of s) st (d.request packet) buf).speed (λ c w g. f (record { begins = b; mode_select = c; whole = w }) g))

module _ {R : Type 0} (d : Device R) (working : Working d) (keeps : KeepsSpeed d) where
  pub speed_follows : SpeedFollows d
  speed_follows =
      record {
        told = λ s st packet buf t. told d keeps s st packet buf t;
        taken = λ s st packet list t. taken d keeps s st packet list t;
        set = λ s st packet list t g. set d keeps s st packet list t g;
        kept = λ s st packet buf f. kept d keeps s st packet buf working f;
      }
