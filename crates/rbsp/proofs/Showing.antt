-- THE WHOLE NAL: what `decode_nal` answers, then `shown`.
use Prim.Native.Nat.{ℕ, suc, ◌≤◌}
use native.Mathlib.Omega.{arith}
use mathlib.Core.Path.{◌≡◌, refl, ap, ap₂, sym, ◌∙◌}
use mathlib.Core.Bool.{Bool, true, false}
use mathlib.Core.List.{List, [], ◌∷◌}
use mathlib.Core.Logic.{inl, inr}
use mathlib.Core.Option.{Option, none, some, some-injective}
use lib.ListN.{length, take, drop}
use lib.Dec.{ltb, eqb}
use borrow.Author.Tests.{eqb-true, eqb-false}
use Rattle.std.specs.Prelude.{Result, Ok, Err}
use Rattle.desk.specs.Numbers.{most, any_over}
use Rattle.desk.specs.Room.{with_front}
use Rattle.desk.specs.Search.{is3, first}
use Rattle.desk.proofs.Choice.{cond_ind}
use Rattle.desk.proofs.Room.{front}
use Rattle.rbsp.specs.Rule.{unescape, Legal, first_break}
use Rattle.rbsp.specs.Answer.{Decoding, fills, decode_kept, decode_tail, decode_nal, decode_of, refused_with, number_of, value_of, Decodes, shown_of}
use Rattle.rbsp.specs.Promise.{RoomFor, DecodeWay}
use Rattle.rbsp.specs.declared.nal.Decoded.{Decoded}
use Rattle.rbsp.specs.declared.nal.Decoded.TheVariants.{Own, Filled}
use Rattle.rbsp.specs.declared.nal.Undecoded.{Undecoded}
use Rattle.rbsp.specs.declared.nal.Undecoded.TheVariants.{TooLong, Empty, Forbidden, NoRoom}
use Rattle.rbsp.proofs.Breaking.{legal_none}
use Rattle.rbsp.proofs.Decoding.{decode_own, decode_filled}
use Rattle.rbsp.proofs.Unescaping.{unescape_none}

-- what a NAL's answer can be
data Case (nal : List ℕ) : Decoding → Type 0 where
  own : unescape (drop 1 nal) ≡ drop 1 nal → Case nal (record { number = 0; value = none; bytes = [] })
  filled : Case nal (fills (drop 1 nal))
  refused : (e : Undecoded) → Case nal (record { number = refused_with e; value = value_of (Err e); bytes = [] })

case_of_lem : (nal : List ℕ) (w : ℕ) → Case nal (decode_of nal w)
unfolding decode_of
case_of_lem nal w = cond_ind (Case nal) (any_over (length nal ∷ w ∷ [])) _ (decode_nal w nal) (Case.refused TooLong) (entered nal)
  where
    by_removed : (header : ℕ) (tail : List ℕ) (r : Option ℕ) → first is3 tail ≡ r → Case (header ∷ tail) (decode_kept w tail r)
    by_removed header tail none q = Case.own (unescape_none tail q)
    by_removed header tail (some i) q = cond_ind (Case (header ∷ tail)) (ltb w (length (unescape tail))) _ _ (Case.refused NoRoom) Case.filled

    by_break : (header : ℕ) (tail : List ℕ) (r : Option ℕ) → Case (header ∷ tail) (decode_tail w tail r)
    by_break header tail none = by_removed header tail (first is3 tail) refl
    by_break header tail (some k) = Case.refused (Forbidden (suc k))

    entered : (nal : List ℕ) → Case nal (decode_nal w nal)
    entered [] = Case.refused Empty
    entered (header ∷ tail) = by_break header tail (first_break tail)

-- a refusal's number is not 0
refused_some : (e : Undecoded) → refused_with e ≡ 0 → ⊥
refused_some TooLong z = omega arith
refused_some Empty z = omega arith
refused_some (Forbidden i) z = omega arith
refused_some NoRoom z = omega arith

-- AN OUTCOME WITH NUMBER 0, THEN `shown`, IS `unescape` OF THE NAL BEHIND ITS HEADER
pub shows_unescaped : (nal room room' : List ℕ) (r : Result Decoded Undecoded) → Decodes nal room room' r → number_of r ≡ 0
    → shown_of nal room' r ≡ unescape (drop 1 nal)
shows_unescaped nal room room' r d = go (case_of_lem nal (length room)) r d.number_is d.value_is d.room_is
  where
    go : {a : Decoding} → Case nal a → (r : Result Decoded Undecoded) → number_of r ≡ a.number → value_of r ≡ a.value
        → room' ≡ with_front room a.bytes → number_of r ≡ 0 → shown_of nal room' r ≡ unescape (drop 1 nal)
    go (Case.refused x) r n v m z = absurd (refused_some x (sym n ∙ z))
    go (Case.own u) (Ok Own) n v m z = sym u
    go (Case.own u) (Ok (Filled k)) n v m z = cc
    go (Case.own u) (Err e) n v m z = absurd (refused_some e z)
    go Case.filled (Ok Own) n v m z = cc
    go Case.filled (Ok (Filled k)) n v m z = ap₂ take (some-injective k (length (unescape (drop 1 nal))) v) m ∙ front room (unescape (drop 1 nal))
    go Case.filled (Err e) n v m z = absurd (refused_some e z)

-- IT IS 0 for a legal NAL within the limit, in such a room
pub decode_done : (nal room room' : List ℕ) (r : Result Decoded Undecoded) → Decodes nal room room' r → 1 ≤ length nal → length nal ≤ most
    → length room ≤ most → Legal (drop 1 nal) → RoomFor nal room → number_of r ≡ 0
decode_done [] room room' r d some_nal nf rf l h = absurd (omega arith)
decode_done (header ∷ tail) room room' r d some_nal nf rf l h = d.number_is ∙ go (eqb (length (unescape tail)) (length tail)) refl h
  where
    go : (c : Bool) → eqb (length (unescape tail)) (length tail) ≡ c → RoomFor (header ∷ tail) room
        → (decode_of (header ∷ tail) (length room)).number ≡ 0
    go true q h = ap (λ (a : Decoding). a.number) (decode_own (length room) (header ∷ tail) (omega arith) nf rf (legal_none tail l) (eqb-true _ _ q))
    go false q (inl fits) =
        ap (λ (a : Decoding). a.number) (decode_filled (length room) (header ∷ tail) (omega arith) nf rf (legal_none tail l) (eqb-false _ _ q) fits)
    go false q (inr e) = absurd (eqb-false _ _ q (ap length e))

-- EVERY NAL AND ROOM HAVE AN OUTCOME
pub decode_way : (nal room : List ℕ) → DecodeWay nal room
decode_way nal room = go (case_of_lem nal (length room)) refl
  where
    go : {a : Decoding} → Case nal a → decode_of nal (length room) ≡ a → DecodeWay nal room
    go {a} c e = record { room' = with_front room a.bytes; answer = of c; decodes = met c e }
      where
        of : {a : Decoding} → Case nal a → Result Decoded Undecoded
        of (Case.own u) = Ok Own
        of Case.filled = Ok (Filled (length (unescape (drop 1 nal))))
        of (Case.refused e) = Err e

        met : {a : Decoding} (c : Case nal a) → decode_of nal (length room) ≡ a → Decodes nal room (with_front room a.bytes) (of c)
        met (Case.own u) e = record { number_is = rw e; value_is = rw e; room_is = rw e }
        met Case.filled e = record { number_is = rw e; value_is = rw e; room_is = rw e }
        met (Case.refused x) e = record { number_is = rw e; value_is = rw e; room_is = rw e }
