-- What a caller knows of a stream's units: joined bytes and ends leave one list of them, and a byte stream by the syntax table comes back as its NAL
-- units.
use Prim.Native.Nat.{ℕ, ◌+◌}
use native.Mathlib.Omega.{arith}
use mathlib.Core.Path.{◌≡◌, refl, ap, ap₂, sym, ◌∙◌}
use mathlib.Core.List.{List, [], ◌∷◌, ◌++◌, head-eq_of_cons-eq, tail-eq_of_cons-eq}
use lib.ListN.{length, take, drop}
use lib.Seq.{take_at, drop_at, take-length}
use Rattle.std.specs.Prelude.{Ok}
use Rattle.desk.specs.Push.{Pushes, shifted}
use Rattle.desk.specs.declared.push.Pushed.{Pushed}
use Rattle.annexb.specs.declared.AnnexBReader.{AnnexBReader}
use Rattle.annexb.specs.Rule.{joined, ends_from, units_at_reset}
use Rattle.annexb.specs.Seen.{new}
use Rattle.annexb.specs.Step.{stepping}
use Rattle.annexb.specs.Answer.{entering, FrameReset}
use Rattle.annexb.specs.Syntax.{ByteStreamNalUnit, byte_stream, AllAllowed, NoneJoin, nal_units}
use Rattle.annexb.proofs.Calling.{pushes_reset}
use Rattle.annexb.proofs.Table.{table_exact}

-- JOINED BYTES AND ENDS LEAVE ONE LIST OF UNITS
pub units_are : (k : ℕ) (us vs : List (List ℕ)) → joined us ≡ joined vs → ends_from k us ≡ ends_from k vs → us ≡ vs
units_are k [] [] j e = refl
units_are k [] (v ∷ vs) j e = absurd (let z : ⊥ = omega (arith, ap length e) in z)
units_are k (u ∷ us) [] j e = absurd (let z : ⊥ = omega (arith, ap length e) in z)
units_are k (u ∷ us) (v ∷ vs) j e =
    let here : k + length u ≡ k + length v = head-eq_of_cons-eq e in
    let long : length v ≡ length u = omega arith in
    let first : u ≡ v = sym (take_at u (joined us) (length u) refl) ∙ ap (take (length u)) j ∙ take_at v (joined vs) (length u) long in
    let rest : joined us ≡ joined vs =
    sym (drop_at u (joined us) (length u) refl) ∙ ap (drop (length u)) j ∙ drop_at v (joined vs) (length u) long in
    ap₂ {C = List (List ℕ)} ◌∷◌ first (units_are (k + length u) us vs rest (tail-eq_of_cons-eq e ∙ ap (λ (n : ℕ). ends_from n vs) (sym here)))

-- A BYTE STREAM BY THE TABLE, THROUGH ANY PUSHES OF ALL OF IT AND ONE RESET: its NAL units, joined and by their ends
pub table_pushed : (leading : ℕ) (us : List ByteStreamNalUnit) → AllAllowed us → NoneJoin us
    → {s : AnnexBReader} {g e : List ℕ} → Pushes stepping entering new (byte_stream leading us) (length (byte_stream leading us)) s g e
    → (room marks : List ℕ) (s' : AnnexBReader) (room' marks' : List ℕ) (p : Pushed) → FrameReset s room marks s' room' marks' (Ok p)
    → (g ++ take p.written room' ≡ joined (nal_units us)) × (e ++ shifted (length g) (take p.marked marks') ≡ ends_from 0 (nal_units us))
table_pushed leading us a k pushes room marks s' room' marks' p o =
    let w = pushes_reset pushes room marks s' room' marks' p o in
    let units = ap units_at_reset (take-length (byte_stream leading us)) ∙ table_exact leading us a k in
    (w.bytes_are ∙ ap joined units, w.ends_are ∙ ap (ends_from 0) units)
