-- The record rules as facts: the test and the facts give one another.
-- Assumes nothing.
use Prim.Native.Nat.{ℕ, ◌≤◌, ◌<◌}
use mathlib.Core.Bool.{Bool, true, false, not}
use mathlib.Core.Path.{◌≡◌, refl}
use Rattle.std.specs.Prelude.{Option}
use borrow.Author.Tests.{lt-ltb, le-leb, eq-eqb, ne_eqb, ltb-true, leb-true, eqb-true, eqb-false, not-true}
use Rattle.numbers.specs.Choice.{◌≡ᵇ◌, ◌≤ᵇ◌}
use Rattle.numbers.proofs.Cases.{and_i, and_l, and_r, ands, test}
use Rattle.pulse_codes.specs.declared.arguments.Waiting.{Waiting}
use Rattle.pulse_codes.specs.Arguments.{highest_rate, waiting_fits}
use Rattle.pulse_codes.specs.Errors.{admitted}
use Rattle.pulse_parts.specs.declared.cartridge.Cartridge.{Cartridge}
use Rattle.pulse_parts.specs.declared.fault.Fault.{Fault}
use Rattle.pulse_parts.specs.declared.head.Head.{Head}
use Rattle.pulse_parts.specs.declared.head.Motion.{Motion}
use Rattle.pulse_parts.specs.declared.head.Motion.TheVariants.{Load, Run, Still}
use Rattle.pulse_parts.specs.declared.marks.Marks.{Marks}
use Rattle.pulse_parts.specs.declared.reports.Report.{Report}
use Rattle.pulse_parts.specs.Cartridges.{is_none}
use Rattle.pulse_parts.specs.Heads.{motion_fits}
use Rattle.pulse_parts.specs.Reports.{report_fits}
use Rattle.pulse.specs.declared.drive.Drive.{Drive}
use Rattle.pulse.specs.Rules.{cartridge_fits, head_inside, held_error_fits, in_ranges, is_free, keeps_rules, nothing_inside}

-- a cartridge and a head within it
pub record Within (c : Cartridge) (s t k : ℕ) : Type 0 where
  pub ranges : in_ranges c ≡ true
  pub place : s ≤ c.segments
  pub target : t ≤ c.segments
  pub track : k < c.tracks

-- no cartridge, and nothing that speaks of one
pub record Empty (c : Cartridge) (s t k : ℕ) (r f : Bool) : Type 0 where
  pub none : is_none c ≡ true
  pub place : s ≡ 0
  pub target : t ≡ 0
  pub track : k ≡ 0
  pub referenced : r ≡ false
  pub fresh : f ≡ false

pub data Cart (c : Cartridge) (s t k : ℕ) (i r f : Bool) : Type 0 where
  full : i ≡ true → Within c s t k → Cart c s t k i r f
  bare : i ≡ false → Empty c s t k r f → Cart c s t k i r f

pub data Moves (m : Motion) (s t : ℕ) : Type 0 where
  rests : m ≡ Still → s ≡ t → Moves m s t
  runs : m ≡ Run → (s ≡ t → ⊥) → Moves m s t
  loads : m ≡ Load → t ≡ 0 → (s ≡ t → ⊥) → Moves m s t

-- the rules but the one on arguments
pub record Fits (c : Cartridge) (h : Head) (m : Marks) (f : Fault) (r : Report) (k : ℕ) : Type 0 where
  pub cart : Cart c h.place h.target h.track m.inside m.referenced m.fresh
  pub motion : Moves h.motion h.place h.target
  pub rate : (k ≤ᵇ highest_rate) ≡ true
  pub error : admitted f.error ≡ true
  pub report : report_fits r ≡ true
  pub held : held_error_fits f h ≡ true

abbrev pub Calm : Drive → Type 0
Calm d = Fits d.cart d.head d.marks d.fault d.report d.rate

-- the rule on arguments, for a waiting
abbrev pub Waits : Option Waiting → Drive → Type 0
Waits w d = waiting_fits w (is_free d.report d.head d.fault d.marks) d.marks.referenced ≡ true

abbrev pub Rules : Drive → Type 0
Rules d = Calm d × Waits d.waiting d

to_cart : (c : Cartridge) (h : Head) (m : Marks) → cartridge_fits c h m ≡ true →
    Cart c h.place h.target h.track m.inside m.referenced m.fresh
unfolding cartridge_fits
to_cart c h m e = test m.inside in-it out
  where
    in-it : m.inside ≡ true → Cart c h.place h.target h.track m.inside m.referenced m.fresh
    in-it p =
        let f : head_inside c h ≡ true = rw p at e in
        full p
        (record {
          ranges = search ands;
          place = leb-true _ _ (search ands);
          target = leb-true _ _ (search ands);
          track = ltb-true _ _ (search ands);
        })

    out : m.inside ≡ false → Cart c h.place h.target h.track m.inside m.referenced m.fresh
    out p =
        let f : nothing_inside c h m ≡ true = rw p at e in
        bare p
        (record {
          none = search ands depth 7;
          place = eqb-true _ _ (search ands depth 7);
          target = eqb-true _ _ (search ands depth 7);
          track = eqb-true _ _ (search ands depth 7);
          referenced = not-true _ (search ands depth 7);
          fresh = not-true _ (search ands depth 7);
        })

of_cart : (c : Cartridge) (h : Head) (m : Marks) → Cart c h.place h.target h.track m.inside m.referenced m.fresh →
    cartridge_fits c h m ≡ true
unfolding cartridge_fits
of_cart c h m (full p w) =
    rw (p, w.ranges, le-leb h.place c.segments w.place, le-leb h.target c.segments w.target, lt-ltb h.track c.tracks w.track)
of_cart c h m (bare p w) = rw (p, w.none, w.place, w.target, w.track, w.referenced, w.fresh)

to_moves : (m : Motion) (s t : ℕ) → motion_fits m s t ≡ true → Moves m s t
to_moves Still s t e = rests refl (eqb-true s t e)
to_moves Run s t e = runs refl (eqb-false s t (not-true (s ≡ᵇ t) e))
to_moves Load s t e =
    loads refl (eqb-true t 0 (and_r (not (s ≡ᵇ t)) (t ≡ᵇ 0) e)) (eqb-false s t (not-true (s ≡ᵇ t) (and_l (not (s ≡ᵇ t)) (t ≡ᵇ 0) e)))

of_moves : (m : Motion) (s t : ℕ) → Moves m s t → motion_fits m s t ≡ true
of_moves m s t (rests p e) = rw (p, eq-eqb s t e)
of_moves m s t (runs p n) = rw (p, ne_eqb s t n)
of_moves m s t (loads p z n) = rw (p, ne_eqb s t n, eq-eqb t 0 z)

pub to_rules : (d : Drive) → keeps_rules d ≡ true → Rules d
unfolding keeps_rules
to_rules d e = (
  record {
    cart = to_cart d.cart d.head d.marks (search ands depth 8);
    motion = to_moves d.head.motion d.head.place d.head.target (search ands depth 8);
    rate = search ands depth 8;
    error = search ands depth 8;
    report = search ands depth 8;
    held = search ands depth 8;
  },
  search ands depth 8,
)

pub of_rules : (d : Drive) → Rules d → keeps_rules d ≡ true
unfolding keeps_rules
of_rules d r =
    let c = of_cart d.cart d.head d.marks r.0.cart in
    let m = of_moves d.head.motion d.head.place d.head.target r.0.motion in
    search and_i depth 8
