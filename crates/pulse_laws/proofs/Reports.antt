-- Steps 3 and 6 of a train keep the rules: a train in an open report, and a report that opens.
-- Assumes nothing.
use Prim.Native.Nat.{ℕ, ◌-◌, ◌≤◌}
use native.Mathlib.Omega.{arith}
use mathlib.Core.Bool.{Bool, true, false, not, ◌&&◌, ◌||◌}
use mathlib.Core.Path.{◌≡◌, refl}
use borrow.Author.Tests.{le-leb, leb-true}
use Rattle.numbers.specs.Choice.{◌≡ᵇ◌, ◌≤ᵇ◌}
use Rattle.numbers.specs.Member.{is_in}
use Rattle.numbers.proofs.Cases.{and_l, either}
use Rattle.pulse_codes.specs.Codes.{ignored, report_configuration, report_error, report_next_bit, report_rom, report_status, report_vendor}
use Rattle.pulse_codes.specs.Errors.{illegal_in_report}
use Rattle.pulse_parts.specs.declared.cartridge.Cartridge.{Cartridge}
use Rattle.pulse_parts.specs.declared.reports.Report.{Report}
use Rattle.pulse_parts.specs.Reports.{is_open, items_left, most_items, no_report, owing, report_fits}
use Rattle.pulse.specs.declared.drive.Drive.{Drive}
use Rattle.pulse.specs.Drives.{is_ready, with_level, with_report}
use Rattle.pulse.specs.Reports.{error_read, item_given, opened, report_of, status_asked, step_open_report, step_report}
use Rattle.pulse_laws.proofs.Idle.{Idle, latch_idle}
use Rattle.pulse_laws.proofs.Rules.{Cart, bare, full}

report_idle : (d : Drive) (r : Report) → report_fits r ≡ true → Idle d → Idle (with_report d r)
report_idle d r e i = (
  record {
    cart = i.0.cart;
    motion = i.0.motion;
    rate = i.0.rate;
    error = i.0.error;
    report = e;
    held = i.0.held;
  },
  i.1,
)

pub few : (r : Report) → report_fits r ≡ true → r.left ≤ most_items
few r e = leb-true r.left most_items (and_l (r.left ≤ᵇ most_items) (not r.repeat || is_open r) e)

-- one item less, and one repeat more or less
items_fit : (r : Report) → report_fits r ≡ true → report_fits (items_left r) ≡ true
items_fit r e =
    let l = few r e in
    either (λ x. report_fits x ≡ true) (r.left ≤ᵇ 1) _ _ (λ p. refl) (λ p. rw (le-leb (r.left - 1) most_items (omega arith)))

owing_fits : (r : Report) (b : Bool) → (not b || is_open r) ≡ true → report_fits r ≡ true → report_fits (owing r b) ≡ true
owing_fits r b o e = rw (and_l (r.left ≤ᵇ most_items) (not r.repeat || is_open r) e, o)

item_idle : (d : Drive) → Idle d → Idle (item_given d)
unfolding item_given
item_idle d i =
    either Idle d.report.repeat _ _ (λ e. report_idle d (owing d.report false) (owing_fits d.report false refl i.0.report) i)
    (λ e. report_idle d (items_left d.report) (items_fit d.report i.0.report) i)

pub in_report_idle : (d : Drive) (n : ℕ) → is_open d.report ≡ true → Idle d → Idle (step_report d n)
unfolding step_report is_in
in_report_idle d n o i =
    either Idle (n ≡ᵇ report_next_bit) _ _ (λ e. item_idle d i)
    (λ e.
    either Idle (ignored n) _ _ (λ f. report_idle d (owing d.report true) (owing_fits d.report true o i.0.report) i)
    (λ f. latch_idle (with_level (with_report d no_report) false) illegal_in_report n refl (report_idle d no_report refl i)))

abbrev Fit : Report → Type 0
Fit r = report_fits r ≡ true

report_of_fits : (d : Drive) (n : ℕ) → report_fits (report_of d n) ≡ true
unfolding report_of
report_of_fits d n =
    either Fit (n ≡ᵇ report_status) _ _ (λ e. refl)
    (λ e. either Fit (n ≡ᵇ report_error) _ _ (λ e. refl)
    (λ e. either Fit (n ≡ᵇ report_configuration) _ _ (λ e. refl)
    (λ e. either Fit (n ≡ᵇ report_rom) _ _ (λ e. refl)
    (λ e. either Fit (n ≡ᵇ report_vendor) _ _ (λ e. refl) (λ e. refl)))))

asked_idle : (d : Drive) → Idle d → Idle (status_asked d)
unfolding status_asked
asked_idle d i =
    either Idle (is_ready d) _ _
    (λ e. (
      record {
        cart = i.0.cart;
        motion = i.0.motion;
        rate = i.0.rate;
        error = i.0.error;
        report = i.0.report;
        held = i.0.held;
      },
      i.1,
    ))
    (λ e. i)

-- the new mark cleared
known_cart : {c : Cartridge} {s t k : ℕ} {i r f : Bool} (b : Bool) → Cart c s t k i r f → Cart c s t k i r (f && b)
known_cart b (full p w) = full p w
known_cart b (bare p w) =
    bare p (record { none = w.none; place = w.place; target = w.target; track = w.track; referenced = w.referenced; fresh = rw w.fresh })

read_idle : (d : Drive) → Idle d → Idle (error_read d)
unfolding error_read is_in
read_idle d i =
    either Idle (is_ready d) _ _
    (λ e. (
      record {
        cart = known_cart (not d.marks.asked) i.0.cart;
        motion = i.0.motion;
        rate = i.0.rate;
        error = refl;
        report = i.0.report;
        held = refl;
      },
      i.1,
    ))
    (λ e. i)

pub open_report_idle : (d : Drive) (n : ℕ) → Idle d → Idle (step_open_report d n)
unfolding step_open_report
open_report_idle d n i =
    let o = report_idle d (report_of d n) (report_of_fits d n) i in
    either Idle (n ≡ᵇ report_status) _ _ (λ e. asked_idle (opened d n) o)
    (λ e. either Idle (n ≡ᵇ report_error) _ _ (λ f. read_idle (opened d n) o) (λ f. o))
