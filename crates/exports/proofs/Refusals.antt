-- A REFUSAL WRITES ITS ANSWER AND NOTHING ELSE. Where an exported function tells a number other than 0, whatever else it was lent is as it
-- came, and behind the number stand the place or the state as it came, and 0 for everything else. Number 7 is told apart: a push of the byte
-- reader has then taken and delivered all before the forbidden byte, and decode_nal tells that byte's index.
use Prim.Native.Nat.{ℕ}
use mathlib.Core.Path.{◌≡◌, refl, sym, ap, subst, ◌∙◌}
use mathlib.Core.Bool.{Bool, cond}
use mathlib.Core.List.{List, [], ◌∷◌}
use mathlib.Core.Option.{Option, none, some}
use native.Mathlib.Omega.{arith}
use lib.ListN.{length, drop, get_or}
use lib.Dec.{ltb}
use lib.IntN.{ℤ}
use Rattle.std.specs.Prelude.{Result, Ok, Err}
use Rattle.desk.specs.Numbers.{any_over}
use Rattle.desk.specs.Search.{is3, first}
use Rattle.desk.specs.Push.{Answer, answers, Gives}
use Rattle.desk.specs.Refusing.{answered}
use Rattle.desk.specs.Room.{with_front}
use Rattle.desk.specs.declared.push.Pushed.{Pushed}
use Rattle.desk.specs.declared.refusal.Refusal.{Refusal}
use Rattle.desk.proofs.Choice.{cond_ind}
use Rattle.desk.proofs.Room.{with_front_none}
use Rattle.desk.proofs.Taking.{push_refused}
use Rattle.rbsp.specs.declared.reader.ParseState.{ParseState}
use Rattle.rbsp.specs.declared.reader.Stopped.{Stopped}
use Rattle.rbsp.specs.declared.reader.Stopped.TheVariants.{Refused, Forbidden as Stop}
use Rattle.rbsp.specs.declared.writer.ByteWriter.{ByteWriter}
use Rattle.rbsp.specs.declared.nal.Decoded.{Decoded}
use Rattle.rbsp.specs.declared.nal.Decoded.TheVariants.{Own, Filled}
use Rattle.rbsp.specs.declared.nal.Undecoded.{Undecoded}
use Rattle.rbsp.specs.declared.nal.Undecoded.TheVariants.{TooLong, Empty, Forbidden, NoRoom}
use Rattle.rbsp.specs.Rule.{unescape, first_break}
use Rattle.rbsp.specs.Step.{write_step, write_entry}
use Rattle.rbsp.specs.Answer.{Decoding, refuses, decode_kept, decode_tail, decode_nal, decode_of, number_of, ReadPush}
use Rattle.rbsp.proofs.Rooms.{write_number}
use Rattle.annexb.specs.declared.AnnexBReader.{AnnexBReader}
use Rattle.annexb.specs.Answer.{entering}
use Rattle.annexb.specs.Step.{stepping}
use Rattle.annexb.proofs.Laws.{push_number}
use Rattle.annexb.proofs.Completing.{reset_kept}
use Rattle.bits.specs.declared.BitReader.{BitReader}
use Rattle.bits.specs.declared.BitWriter.{BitWriter}
use Rattle.bits.specs.Reading.{Ans, got, no, Told}
use Rattle.bits.specs.Writing.{Wrote, wrote, kept, writer, Writes, outcome, writer_back, WriteMeans, Field, code_of, HasCode, without}
use Rattle.bits.specs.Writing.{write_field, write_trailing}
use Rattle.bits.proofs.Back.{refused_stays, read_is, outcome_back}
use Rattle.bits.proofs.Writing.{field_means, trailing_means}
use Rattle.pps.specs.declared.Geometry.{Geometry}
use Rattle.pps.specs.declared.SliceRect.{SliceRect}
use Rattle.pps.specs.Rule.{Fields}
use Rattle.pps.specs.Answer.{result_of, ids_given}
use Rattle.exports.specs.Escaping.{reader_of, read_numbers, FrontsRead, FrontsWrite, decode_numbers, FrontsDecode}
use Rattle.exports.specs.Framing.{FrontsFrame, FrontsPush, FrontsReset}
use Rattle.exports.specs.Bits.{FrontsField, FrontsBits, FrontsBit, FrontsMoved, FrontsSigned, FrontsMore, FrontsMapped, FrontsPut}
use Rattle.exports.specs.Groups.{FrontsRect, Arrays, FrontsGroups}

-- what stands behind the number of an answer
behind : {n : ℕ} {rest l : List ℕ} → n ∷ rest ≡ l → rest ≡ drop 1 l
behind e = ap (drop 1) e

-- the number of an answer
head : {n : ℕ} {rest l : List ℕ} → n ∷ rest ≡ l → n ≡ get_or l 0 0
head e = ap (λ (l : List ℕ). get_or l 0 0) e

-- an answer with another number than 0 is a refusal
refusal : {A : Type 0} {n : ℕ} (r : Result A Refusal) → (n ≡ 0 → ⊥) → n ≡ answered r → (why : Refusal) × (r ≡ Err why)
refusal (Ok a) no0 e = absurd (no0 e)
refusal (Err why) no0 e = (why, refl)

-- ---- pushes

-- a call that answers a number alone leaves the state and both rooms as they came
left_alone : {S : Type 0} {a : Answer S} {e : ℕ} {s after : S} {room marks room' marks' : List ℕ} {number taken wrote marked_n : ℕ}
    → a ≡ answers e s → Gives a room marks room' marks' number taken wrote marked_n after → (after ≡ s) × ((room' ≡ room) × (marks' ≡ marks))
left_alone {S} {room = room} {marks = marks} q g = (
  g.state_is ∙ ap (λ (x : Answer S). x.after) q,
  (
    g.room ∙ ap (λ (x : Answer S). with_front room x.bytes) q ∙ sym (with_front_none room),
    g.mark_room ∙ ap (λ (x : Answer S). with_front marks x.marks) q ∙ sym (with_front_none marks),
  ),
)

-- ---- escaping

-- no byte in front of a room leaves it as it came
none_in_front : (room bytes : List ℕ) → 0 ≡ length bytes → with_front room bytes ≡ room
none_in_front room [] e = sym (with_front_none room)
none_in_front room (b ∷ bs) e = absurd (omega arith)

pub read_refused : (zeros skip : ℕ) (three : Bool) (chunk out out' : List ℕ) {n : ℕ} {rest : List ℕ}
    → FrontsRead zeros skip three chunk out out' (n ∷ rest)
    → (n ≡ 0 → ⊥) → (n ≡ 7 → ⊥) → (rest ≡ 0 ∷ 0 ∷ zeros ∷ skip ∷ cond three 1 0 ∷ []) × (out' ≡ out)
read_refused zeros skip three chunk out out' {n} {rest} f no0 no7 = of f.r f.after f.told f.call
  where
    of : (r : Result Pushed Stopped) (after : ParseState) → n ∷ rest ≡ read_numbers zeros skip three r after
        → ReadPush (reader_of zeros skip three) after chunk out out' r → (rest ≡ 0 ∷ 0 ∷ zeros ∷ skip ∷ cond three 1 0 ∷ []) × (out' ≡ out)
    of (Ok all) after t c = absurd (no0 (head t))
    of (Err (Refused why)) after t c = (behind t, c.gives.room ∙ none_in_front out _ c.gives.wrote_is)
    of (Err (Stop before)) after t c = absurd (no7 (head t))

pub write_refused : (s : ByteWriter) (chunk out out' : List ℕ) {n : ℕ} {rest : List ℕ} → FrontsWrite s chunk out out' (n ∷ rest)
    → (n ≡ 0 → ⊥) → (rest ≡ 0 ∷ 0 ∷ s.zero_count ∷ []) × (out' ≡ out)
write_refused s chunk out out' {n} {rest} f no0 =
    let e = write_entry s (length chunk) (length out) 0 in
    let why = refusal f.r no0 (head f.told) in
    let alone =
    left_alone
    (push_refused write_step e s chunk (length out) 0 (λ z. no0 (head f.told ∙ write_number s f.after chunk out out' f.r f.call ∙ z)))
    f.call in
    (behind f.told ∙ rw (why.1, alone.0), alone.1.0)

-- a NAL that is refused writes nothing
abbrev WritesNone : Decoding → Type 0
WritesNone d = (d.number ≡ 0 → ⊥) → d.bytes ≡ []

kept_none : (w : ℕ) (tail : List ℕ) (i : Option ℕ) → WritesNone (decode_kept w tail i)
kept_none w tail none = λ _. refl
kept_none w tail (some i) =
    cond_ind WritesNone (ltb w (length (unescape tail))) (refuses 10)
    (record { number = 0; value = some (length (unescape tail)); bytes = unescape tail })
    (λ _. refl) (λ h. absurd (h refl))

tail_none : (w : ℕ) (tail : List ℕ) (k : Option ℕ) → WritesNone (decode_tail w tail k)
tail_none w tail none = kept_none w tail (first is3 tail)
tail_none w tail (some k) = λ _. refl

nal_none : (w : ℕ) (nal : List ℕ) → WritesNone (decode_nal w nal)
nal_none w [] = λ _. refl
nal_none w (header ∷ tail) = tail_none w tail (first_break tail)

decode_none : (nal : List ℕ) (w : ℕ) → WritesNone (decode_of nal w)
unfolding decode_of
decode_none nal w = cond_ind WritesNone (any_over (length nal ∷ w ∷ [])) (refuses 1) (decode_nal w nal) (λ _. refl) (nal_none w nal)

pub decode_refused : (nal room room' : List ℕ) {n : ℕ} {rest : List ℕ} → FrontsDecode nal room room' (n ∷ rest)
    → (n ≡ 0 → ⊥) → ((n ≡ 7 → ⊥) → rest ≡ 0 ∷ 0 ∷ []) × (room' ≡ room)
decode_refused nal room room' {n} {rest} f no0 = (
  λ no7. of f.r f.told no7,
  f.call.room_is
      ∙ ap (with_front room) (decode_none nal (length room) (λ z. no0 (number f.r f.told ∙ f.call.number_is ∙ z)))
      ∙ sym (with_front_none room),
)
  where
    number : (r : Result Decoded Undecoded) → n ∷ rest ≡ decode_numbers r → n ≡ number_of r
    number (Ok Own) e = head e
    number (Ok (Filled k)) e = head e
    number (Err TooLong) e = head e
    number (Err Empty) e = head e
    number (Err (Forbidden i)) e = head e
    number (Err NoRoom) e = head e

    of : (r : Result Decoded Undecoded) → n ∷ rest ≡ decode_numbers r → (n ≡ 7 → ⊥) → rest ≡ 0 ∷ 0 ∷ []
    of (Ok Own) e no7 = behind e
    of (Ok (Filled k)) e no7 = absurd (no0 (head e))
    of (Err TooLong) e no7 = behind e
    of (Err Empty) e no7 = behind e
    of (Err (Forbidden i)) e no7 = absurd (no7 (head e))
    of (Err NoRoom) e no7 = behind e

-- ---- framing

frame_refused : {s : AnnexBReader} {a : Answer AnnexBReader} {e : ℕ} {room marks room' marks' : List ℕ} {n : ℕ} {rest : List ℕ}
    → (n ≡ 0 → ⊥) → a ≡ answers e s → FrontsFrame a room marks room' marks' (n ∷ rest)
    → (rest ≡ 0 ∷ 0 ∷ 0 ∷ cond s.in_unit 1 0 ∷ s.zeros ∷ []) × ((room' ≡ room) × (marks' ≡ marks))
frame_refused no0 q f =
    let why = refusal f.r no0 (head f.told) in
    let alone = left_alone q f.call in
    (behind f.told ∙ rw (why.1, alone.0), alone.1)

module _ (s : AnnexBReader) (room marks room' marks' : List ℕ) {n : ℕ} {rest : List ℕ} (no0 : n ≡ 0 → ⊥) where
  pub frame_push_refused : (chunk : List ℕ) → FrontsPush s chunk room marks room' marks' (n ∷ rest)
      → (rest ≡ 0 ∷ 0 ∷ 0 ∷ cond s.in_unit 1 0 ∷ s.zeros ∷ []) × ((room' ≡ room) × (marks' ≡ marks))
  frame_push_refused chunk f =
      let w = length room in
      let m = length marks in
      let e = entering s (length chunk) w m in
      frame_refused no0 (push_refused stepping e s chunk w m (λ z. no0 (head f.told ∙ f.call.number_is ∙ push_number s chunk w m ∙ z))) f

  pub frame_reset_refused : FrontsReset s room marks room' marks' (n ∷ rest)
      → (rest ≡ 0 ∷ 0 ∷ 0 ∷ cond s.in_unit 1 0 ∷ s.zeros ∷ []) × ((room' ≡ room) × (marks' ≡ marks))
  frame_reset_refused f = frame_refused no0 (reset_kept s (length room) (length marks) (λ z. no0 (head f.told ∙ f.call.number_is ∙ z))) f

-- ---- bits and rectangles

module _ (from : BitReader) {n : ℕ} {rest : List ℕ} (no0 : n ≡ 0 → ⊥) where
  read_0 : {A : Type 0} {value : A → ℕ} {a : Ans A} → FrontsField value from a (n ∷ rest) → rest ≡ 0 ∷ from.at.0 ∷ []
  read_0 f = let why = refusal f.r no0 (head f.told) in behind f.told ∙ rw (why.1, refused_stays f.call why.1)

  pub bits_refused : (a : Ans ℕ) → FrontsBits from a (n ∷ rest) → rest ≡ 0 ∷ from.at.0 ∷ []
  bits_refused a f = read_0 f

  pub bit_refused : (a : Ans Bool) → FrontsBit from a (n ∷ rest) → rest ≡ 0 ∷ from.at.0 ∷ []
  bit_refused a f = read_0 f

  pub moved_refused : (a : Ans Unit) → FrontsMoved from a (n ∷ rest) → rest ≡ from.at.0 ∷ []
  moved_refused a f = let why = refusal f.r no0 (head f.told) in behind f.told ∙ rw (refused_stays f.call why.1)

  pub signed_refused : (a : Ans ℤ) (v v' : ℤ) → FrontsSigned from a v v' (n ∷ rest) → (rest ≡ from.at.0 ∷ []) × (v' ≡ v)
  signed_refused a v v' f =
      let why = refusal f.r no0 (head f.told) in
      (behind f.told ∙ rw (refused_stays f.call.0 why.1), f.call.1 ∙ rw why.1)

  pub rect_refused : (a : Ans SliceRect) → FrontsRect from a (n ∷ rest) → rest ≡ from.at.0 ∷ 0 ∷ 0 ∷ []
  rect_refused a f = let why = refusal f.r no0 (head f.told) in behind f.told ∙ rw (refused_stays f.call why.1, why.1)

pub more_refused : {n : ℕ} {rest : List ℕ} → (n ≡ 0 → ⊥) → (a : Told Bool) → FrontsMore a (n ∷ rest) → rest ≡ 0 ∷ []
more_refused no0 a f = let why = refusal f.r no0 (head f.told) in behind f.told ∙ rw why.1

pub mapped_refused : {n : ℕ} → (n ≡ 0 → ⊥) → (a : Told ℤ) (v v' : ℤ) → FrontsMapped a v v' n → v' ≡ v
mapped_refused no0 a v v' f = let why = refusal f.r no0 f.number_is in f.value_is ∙ rw why.1

-- ---- writing bits

-- a refused write keeps the room
abbrev KeepsRoom : List ℕ → Wrote → Type 0
KeepsRoom out (wrote st o) = Unit
KeepsRoom out (kept k o) = o ≡ out

means_keeps : (out : List ℕ) (st : BitWriter) (code : List ℕ) (Has : Type 0) (without : ℕ) (a : Wrote)
    → WriteMeans out st code Has without a → KeepsRoom out a
means_keeps out st code Has without (wrote st' o) h = tt
means_keeps out st code Has without (kept k o) h = h.0

put_kept : {from after : BitWriter} {r : Result Unit Refusal} {out out' : List ℕ} {a : Wrote} {why : Refusal} → Writes from after r out' a
    → r ≡ Err why → KeepsRoom out a → (after ≡ from) × (out' ≡ out)
put_kept {from} {after} {out = out} {out' = out'} w q keeps =
    let k = sym (outcome_back w) ∙ ap (λ (x : Result Unit Refusal). outcome x after out') q in
    (w.writer ∙ ap (writer_back from) k, subst (KeepsRoom out) k keeps)

module _ (w p c : ℕ) (out out' : List ℕ) {n : ℕ} {rest : List ℕ} (no0 : n ≡ 0 → ⊥) where
  put_refused : (by : BitWriter → Wrote) → ((s : BitWriter) → KeepsRoom out (by s)) → FrontsPut w p c out' by (n ∷ rest)
      → (rest ≡ w ∷ p ∷ c ∷ []) × (out' ≡ out)
  put_refused by keeps f =
      let why = refusal f.r no0 (head f.told) in
      let e = put_kept f.call why.1 (keeps (writer w p c)) in
      (behind f.told ∙ rw e.0, e.1)

  -- write, write_bit, write_ue and write_se
  pub field_refused : (f : Field) → FrontsPut w p c out' (λ s. write_field out s f) (n ∷ rest) → (rest ≡ w ∷ p ∷ c ∷ []) × (out' ≡ out)
  field_refused f =
      put_refused (λ s. write_field out s f)
      (λ s. means_keeps out s (code_of f) (HasCode f) (without f) (write_field out s f) (field_means out s f))

  pub trailing_refused : FrontsPut w p c out' (λ s. write_trailing out s) (n ∷ rest) → (rest ≡ w ∷ p ∷ c ∷ []) × (out' ≡ out)
  trailing_refused =
      put_refused (λ s. write_trailing out s)
      (λ s. means_keeps out s _ Unit 0 (write_trailing out s) (trailing_means out s))

-- ---- slice groups

-- a refused read gives no ids
no_ids : (m : ℕ) (a : Ans Fields) {k : ℕ} → result_of m a ≡ no k → ids_given a ≡ []
no_ids m (got f q) e = cc
no_ids m (no j) e = refl

pub groups_refused : (s : List ℕ) (from : BitReader) (m : ℕ) (g : Geometry) (ids ids' : List ℕ) (lent lent' : Arrays) {n : ℕ} {rest : List ℕ}
    → (n ≡ 0 → ⊥) → FrontsGroups s from m g ids lent ids' (n ∷ rest) lent'
    → (rest ≡ from.at.0 ∷ 0 ∷ 0 ∷ []) × ((ids' ≡ ids) × (lent' ≡ lent))
groups_refused s from m g ids ids' lent lent' no0 f =
    let why = refusal f.r no0 (head f.told) in
    let none = no_ids m _ (read_is f.call.read why.1) in (
      behind f.told ∙ rw (refused_stays f.call.read why.1, why.1),
      (f.call.memory ∙ ap (with_front ids) none ∙ sym (with_front_none ids), f.filled ∙ rw why.1),
    )
