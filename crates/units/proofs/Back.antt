-- What is written behind start codes comes back unit for unit.
use Prim.Native.Nat.{ℕ, zero, suc, ◌+◌, ◌-◌, ◌≤◌, zero-le}
use native.Mathlib.Omega.{arith}
use mathlib.Core.Path.{◌≡◌, refl, ap, ap₂, sym, ◌∙◌}
use mathlib.Core.Bool.{Bool, true, false, ◌&&◌}
use mathlib.Core.List.{List, [], ◌∷◌, ◌++◌, append-nil, map}
use mathlib.Core.Logic.{◌⊎◌, inl, inr}
use mathlib.Core.Option.{none}
use lib.ListN.{length, drop, length-map}
use lib.Seq.{take-length, take_at, drop_at}
use Rattle.desk.specs.Search.{is0, up_to1, up_to2, stands, first, trail}
use Rattle.desk.proofs.Bytes.{not_0}
use Rattle.rbsp.specs.Promise.{RoomFor}
use Rattle.rbsp.specs.Rule.{escape, unescape}
use Rattle.rbsp.proofs.Escaping.{escape_trail}
use Rattle.rbsp.proofs.Rooms.{write_way}
use Rattle.rbsp.proofs.Showing.{shows_unescaped, decode_done}
use Rattle.rbsp.proofs.Traces.{reading, writing}
use Rattle.annexb.specs.Rule.{units_at_reset, joined, ends_from}
use Rattle.annexb.specs.Seen.{new}
use Rattle.annexb.specs.Syntax.{ByteStreamNalUnit, byte_stream, Allowed, AllAllowed, NoneJoin, nal_units}
use Rattle.annexb.proofs.Calling.{pushes_reset}
use Rattle.annexb.proofs.Laws.{frame_way}
use Rattle.annexb.proofs.Table.{table_exact}
use Rattle.annexb.proofs.Ways.{reset_way, pushes_good}
use Rattle.units.specs.Units.{Plain, EscapedUnit, nal, nals, stream, Read, cut_at, GivesRbsp, Shows, AllBack, UnitForUnit, UnitsWay}

-- ---- a written unit is a NAL unit that Rec B.1 allows

up_to_1_2 : (b : ℕ) → up_to2 b ≡ false → up_to1 b ≡ false
up_to_1_2 zero e = e
up_to_1_2 (suc zero) e = e
up_to_1_2 (suc (suc b)) e = refl

-- where 00 00 00, 00 00 01 and 00 00 02 stand nowhere, no code is found
no_three_none : (s : List ℕ) → ((i : ℕ) → stands up_to2 (drop i s) ≡ false) → first up_to1 s ≡ none
no_three_none [] h = refl
no_three_none (x ∷ s) h = rw (smaller (x ∷ s) (h 0), no_three_none s (λ i. h (suc i)))
  where
    both : (a b : Bool) (z : ℕ) → (a && (b && up_to2 z)) ≡ false → (a && (b && up_to1 z)) ≡ false
    both true true z e = up_to_1_2 z e
    both true false z e = refl
    both false b z e = refl

    smaller : (l : List ℕ) → stands up_to2 l ≡ false → stands up_to1 l ≡ false
    smaller [] e = refl
    smaller (a ∷ []) e = refl
    smaller (a ∷ b ∷ []) e = refl
    smaller (a ∷ b ∷ c ∷ l) e = both (is0 a) (is0 b) c e

-- a header that is not zero begins no code, and counts for no zero at the end
header_none : (b : ℕ) (s : List ℕ) → is0 b ≡ false → first up_to1 s ≡ none → first up_to1 (b ∷ s) ≡ none
header_none b [] z e = refl
header_none b (x ∷ []) z e = refl
header_none b (x ∷ y ∷ s) z e = rw (z, e)

header_trail : (b : ℕ) (s : List ℕ) → is0 b ≡ false → trail s ≡ 0 → trail (b ∷ s) ≡ 0
header_trail b [] z e = rw z
header_trail b (zero ∷ []) z e = let x : ⊥ = omega arith in absurd x
header_trail b (suc x ∷ []) z e = refl
header_trail b (x ∷ y ∷ s) z e = e

allowed : (u : EscapedUnit) → Allowed (nal u)
allowed u =
    let w = writing u.pushes in
    let p = u.plain in
    let z = not_0 p.header p.header_some in
    record {
      no_code = header_none p.header u.escaped z (no_three_none u.escaped w.legal.no_three);
      no_last_zero =
          header_trail p.header u.escaped z
          (ap trail (w.bytes ∙ ap escape (take-length p.rbsp)) ∙ escape_trail p.rbsp p.no_last_zero);
    }

-- ---- the stream by the syntax table of B.1.1

abbrev tabled : EscapedUnit → ByteStreamNalUnit
tabled u = record { zero_byte = false; nal = nal u; trailing_zeros = 0 }

all_allowed : (us : List EscapedUnit) → AllAllowed (map tabled us)
all_allowed [] = tt
all_allowed (u ∷ us) = (allowed u, all_allowed us)

none_join : (us : List EscapedUnit) → NoneJoin (map tabled us)
none_join [] = tt
none_join (u ∷ []) = refl
none_join (u ∷ v ∷ us) = none_join (v ∷ us)

stream_is : (us : List EscapedUnit) → stream us ≡ byte_stream 0 (map tabled us)
stream_is [] = refl
stream_is (u ∷ us) = ap {B = List ℕ} (λ l. 0 ∷ 0 ∷ 1 ∷ l) (ap₂ ◌++◌ (sym (append-nil (nal u))) (stream_is us))

nals_are : (us : List EscapedUnit) → nal_units (map tabled us) ≡ nals us
nals_are [] = refl
nals_are (u ∷ us) = ap {B = List (List ℕ)} (λ l. nal u ∷ l) (nals_are us)

stream_units : (us : List EscapedUnit) → units_at_reset (stream us) ≡ nals us
stream_units us = ap units_at_reset (stream_is us) ∙ table_exact 0 (map tabled us) (all_allowed us) (none_join us) ∙ nals_are us

-- ---- what was handed out is what the rule gives

-- joined units, cut at their ends, are the units
cut_joined : (k : ℕ) (us : List (List ℕ)) → cut_at k (ends_from k us) (joined us) ≡ us
cut_joined k [] = refl
cut_joined k (u ∷ us) =
    let n : k + length u - k ≡ length u = omega arith in
    rw n (ap₂ {C = List (List ℕ)} (λ a b. a ∷ b) (take_at u (joined us) (length u) refl)
    (ap (cut_at (k + length u) (ends_from (k + length u) us)) (drop_at u (joined us) (length u) refl) ∙ cut_joined (k + length u) us))

ends_count : (k : ℕ) (us : List (List ℕ)) → length (ends_from k us) ≡ length us
ends_count k [] = refl
ends_count k (u ∷ us) = ap suc (ends_count (k + length u) us)

pub read_units : (s bytes ends : List ℕ) → Read s bytes ends → (bytes ≡ joined (units_at_reset s)) × (ends ≡ ends_from 0 (units_at_reset s))
read_units s bytes ends r =
    let w = pushes_reset r.pushes r.room r.marks r.after r.room' r.marks' r.closed r.reset in
    let all = ap units_at_reset (take-length s) in
    (r.bytes_are ∙ w.bytes_are ∙ ap joined all, r.ends_are ∙ w.ends_are ∙ ap (ends_from 0) all)

-- ---- each unescapes to its RBSP

unescaped : (u : EscapedUnit) → unescape u.escaped ≡ u.plain.rbsp
unescaped u = (writing u.pushes).back ∙ take-length u.plain.rbsp

pub gives_rbsp : (u : EscapedUnit) → GivesRbsp u
gives_rbsp u s given ends p = (reading 1 p).bytes ∙ ap (λ (l : List ℕ). unescape (drop 1 l)) (take-length (nal u)) ∙ unescaped u

pub shows : (u : EscapedUnit) → Shows u
shows u room room' r d nf rf room_for =
    let e = unescaped u in
    let z = decode_done (nal u) room room' r d (omega arith) nf rf (writing u.pushes).legal (fits room_for) in
    (z, shows_unescaped (nal u) room room' r d z ∙ e)
  where
    fits : (length u.plain.rbsp ≤ length room) ⊎ (u.plain.rbsp ≡ u.escaped) → RoomFor (nal u) room
    fits (inl h) = inl (let n = ap length (unescaped u) in omega arith)
    fits (inr h) = inr (unescaped u ∙ h)

all_back : (us : List EscapedUnit) → AllBack us
all_back [] = tt
all_back (u ∷ us) = (gives_rbsp u, shows u, all_back us)

-- UNIT FOR UNIT
pub unit_for_unit : (us : List EscapedUnit) (bytes ends : List ℕ) → Read (stream us) bytes ends → UnitForUnit us bytes ends
unit_for_unit us bytes ends r =
    let e = read_units (stream us) bytes ends r in
    let u = stream_units us in
    let b = e.0 ∙ ap joined u in
    let m = e.1 ∙ ap (ends_from 0) u in
    record {
      units = ap₂ (cut_at 0) m b ∙ cut_joined 0 (nals us);
      count = ap length m ∙ ends_count 0 (nals us) ∙ length-map us nal;
      all_bytes = b;
      rbsps = all_back us;
    }

-- ---- there is a way

abbrev byte_wise : Plain → EscapedUnit
byte_wise p = let w = write_way p.rbsp in record { plain = p; escaped = w.given; state = w.state; marks = w.ends; pushes = w.pushes }

pub units_way : (ps : List Plain) → UnitsWay ps
units_way ps =
    let us = map byte_wise ps in
    let w = frame_way new zero-le (stream us) in
    let z = reset_way w.state (pushes_good w.pushes) in
    record {
      units = us;
      plain_are = plain_again ps;
      bytes = _;
      ends = _;
      read =
          record {
            state = w.state;
            given = w.given;
            marked = w.ends;
            pushes = w.pushes;
            room = 0 ∷ 0 ∷ [];
            room' = z.room';
            marks = 0 ∷ [];
            marks' = z.marks';
            after = z.after;
            closed = z.closed;
            reset = z.reset;
            bytes_are = refl;
            ends_are = refl;
          };
    }
  where
    plain_again : (ps : List Plain) → map (λ (u : EscapedUnit). u.plain) (map byte_wise ps) ≡ ps
    plain_again [] = refl
    plain_again (p ∷ ps) = ap {B = List Plain} (λ l. p ∷ l) (plain_again ps)
