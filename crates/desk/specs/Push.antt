-- A PUSH, WHATEVER THE READER OR WRITER IS: bytes are taken from the front, one after another, while all that the next byte releases fits.
-- What one byte does is the crate's own (`Next`); what a push makes of it, and what pushes come to however a stream is cut, is said here once.
use Rattle.std.specs.Prelude.{ℕ, ◌+◌, ◌≤◌, ◌<◌, ◌≡◌, Bool, true, false, cond, ◌&&◌, List, [], ◌∷◌, ◌++◌, map, length, take, drop, get_or, leb, eqb}
use Rattle.std.proofs.Math.Option.{Option, none, some}
use Rattle.desk.specs.Numbers.{done, forbidden_byte}
use Rattle.desk.specs.Room.{with_front}

-- what a byte does: the state after it, the bytes that it releases, and whether it ends a unit
pub record Out (S : Type 0) : Type 0 where
  pub after : S
  pub bytes : List ℕ
  pub mark : Bool

-- what each byte does in each state; none where it is forbidden there
abbrev pub Next : Type 0 → Type 0
Next S = S → ℕ → Option (Out S)

-- what a call answers: its number, the bytes taken, what it wrote of bytes and of marks, and the state after it
pub record Answer (S : Type 0) : Type 0 where
  pub number : ℕ
  pub taken : ℕ
  pub bytes : List ℕ
  pub marks : List ℕ
  pub after : S

-- a number alone: nothing taken, nothing written, the state as it came
abbrev pub answers : {S : Type 0} → ℕ → S → Answer S
answers n s = record { number = n; taken = 0; bytes = []; marks = []; after = s }

-- the mark of an end after the bytes l, or none: A MARK IS THE COUNT OF BYTES WRITTEN BEFORE THAT END
abbrev pub marked : Bool → List ℕ → List ℕ
marked c l = cond c (length l ∷ []) []

-- a byte more is taken
abbrev pub took : {S : Type 0} → Answer S → Out S → Answer S
took a o =
    record {
      number = a.number;
      taken = a.taken + 1;
      bytes = a.bytes ++ o.bytes;
      marks = a.marks ++ marked o.mark a.bytes;
      after = o.after;
    }

-- all that a byte releases fits rooms of w bytes and m marks
abbrev pub fits : {S : Type 0} → ℕ → ℕ → Answer S → Out S → Bool
fits w m a o = leb (length a.bytes + length o.bytes) w && leb (length a.marks + length (marked o.mark a.bytes)) m

-- the next byte is forbidden: all before it is taken and delivered, so its index is the count taken
abbrev pub forbidden : {S : Type 0} → Answer S → Answer S
forbidden a = record { number = forbidden_byte; taken = a.taken; bytes = a.bytes; marks = a.marks; after = a.after }

-- with the next byte: 7 whatever room is left where it is forbidden; else it is taken if all that it releases fits
abbrev pub meets : {S : Type 0} → ℕ → ℕ → Answer S → Option (Out S) → (Out S → Answer S) → Answer S
meets w m a none go = forbidden a
meets w m a (some o) go = cond (fits w m a o) (go o) a

unfoldable pub run : {S : Type 0} → Next S → ℕ → ℕ → Answer S → List ℕ → Answer S
run next w m a [] = a
run next w m a (b ∷ bs) = meets w m a (next a.after b) (λ o. run next w m (took a o) bs)

-- a push of a chunk from the state s into rooms of w bytes and m marks, where the entry checks gave `entry`
unfoldable pub push_of : {S : Type 0} → Next S → ℕ → S → List ℕ → ℕ → ℕ → Answer S
push_of next entry s chunk w m = cond (eqb entry done) (run next w m (answers done s) chunk) (answers entry s)

-- the entry checks: a number, by the state and by the lengths of the chunk and of both rooms
abbrev pub Entry : Type 0 → Type 0
Entry S = S → ℕ → ℕ → ℕ → ℕ

-- a push with its own entry checks
abbrev pub push_by : {S : Type 0} → Next S → Entry S → S → List ℕ → ℕ → ℕ → Answer S
push_by next entry s chunk w m = push_of next (entry s (length chunk) w m) s chunk w m

-- A CALL'S OUTCOME IS THE ANSWER: what it returns, and all of both rooms after it
pub record Gives {S : Type 0} (a : Answer S) (out marks out' marks' : List ℕ) (number taken wrote marked_n : ℕ) (state : S) : Type 0 where
  pub number_is : number ≡ a.number
  pub taken_is : taken ≡ a.taken
  pub wrote_is : wrote ≡ length a.bytes
  pub marked_is : marked_n ≡ length a.marks
  pub state_is : state ≡ a.after
  pub room : out' ≡ with_front out a.bytes
  pub mark_room : marks' ≡ with_front marks a.marks

-- ---- a stream cut into pushes

-- marks of a call, as places in all the joined bytes: k were given before it
abbrev pub shifted : ℕ → List ℕ → List ℕ
shifted k l = map (λ (x : ℕ). k + x) l

-- A PUSH THAT IS LENT THE NEXT k BYTES, behind the n that were taken, and any rooms: any outcome that its contract allows
abbrev pub PushesOn : {S : Type 0} → Next S → Entry S → List ℕ → ℕ → S → ℕ → List ℕ → List ℕ → List ℕ → List ℕ → ℕ → ℕ → ℕ → ℕ → S → Type 0
PushesOn next entry stream n s k out marks out' marks' number taken wrote marked_n s' =
    Gives (push_by next entry s (take k (drop n stream)) (length out) (length marks)) out marks out' marks' number taken wrote marked_n s'

-- After some pushes of the stream from the state s₀, with no reset between: n bytes taken, the state, the joined bytes and the ends handed out.
-- Each push is lent the next k bytes, for any k, and any rooms, and any outcome that its contract allows is gone on from, at the count it took:
-- refused pushes too.
pub data Pushes {S : Type 0} (next : Next S) (entry : Entry S) (s₀ : S) (stream : List ℕ) : ℕ → S → List ℕ → List ℕ → Type 0 where
  none_yet : Pushes next entry s₀ stream 0 s₀ [] []
  one_more : {n : ℕ} {s : S} {given ends : List ℕ} → Pushes next entry s₀ stream n s given ends
      → (k : ℕ) (out marks out' marks' : List ℕ) (number taken wrote marked_n : ℕ) (s' : S)
      → PushesOn next entry stream n s k out marks out' marks' number taken wrote marked_n s'
      → Pushes next entry s₀ stream (n + taken) s' (given ++ take wrote out') (ends ++ shifted (length given) (take marked_n marks'))

-- what is to be seen once some bytes are taken: the state, the joined bytes, and the ends as places in them
pub record Seen (S : Type 0) : Type 0 where
  pub state : S
  pub bytes : List ℕ
  pub ends : List ℕ

abbrev pub seen : {S : Type 0} → S → List ℕ → List ℕ → Seen S
seen s g e = record { state = s; bytes = g; ends = e }

abbrev pub seen_after : {S : Type 0} → Seen S → Out S → Seen S
seen_after v o = seen o.after (v.bytes ++ o.bytes) (v.ends ++ marked o.mark v.bytes)

-- THE STEP GIVES THE RULE, at every history h and byte b that is not forbidden there
pub record Follows {S : Type 0} (next : Next S) (s₀ : S) (rule : List ℕ → Seen S) : Type 0 where
  pub new : rule [] ≡ seen s₀ [] []
  pub more : (h : List ℕ) (b : ℕ) (o : Out S) → next (rule h).state b ≡ some o → rule (h ++ b ∷ []) ≡ seen_after (rule h) o

-- after some pushes: what was handed out is what the rule gives for the bytes taken
pub record Cut {S : Type 0} (rule : List ℕ → Seen S) (stream : List ℕ) (n : ℕ) (s : S) (given ends : List ℕ) : Type 0 where
  pub within : n ≤ length stream
  pub rule_gives : rule (take n stream) ≡ seen s given ends

-- ---- how much a push takes

abbrev pub accepts_by : {S : Type 0} → Option (Out S) → (Out S → Bool) → Bool
accepts_by none go = false
accepts_by (some o) go = go o

-- no byte of the list is forbidden, from the state s on
abbrev pub accepts : {S : Type 0} → Next S → S → List ℕ → Bool
accepts next s [] = true
accepts next s (b ∷ bs) = accepts_by (next s b) (λ o. accepts next o.after bs)

-- what the bytes c release after the bytes h fits rooms of w bytes and m marks
pub record Fits {S : Type 0} (rule : List ℕ → Seen S) (h c : List ℕ) (w m : ℕ) : Type 0 where
  pub bytes_fit : length (rule (h ++ c)).bytes ≤ length (rule h).bytes + w
  pub ends_fit : length (rule (h ++ c)).ends ≤ length (rule h).ends + m

-- a push that is not refused at entry takes the longest front of the chunk that holds no forbidden byte and all of whose releases fit;
-- it answers 7 exactly if the byte behind that front is forbidden
pub record Longest {S : Type 0} (next : Next S) (rule : List ℕ → Seen S) (h chunk : List ℕ) (w m : ℕ) (a : Answer S) : Type 0 where
  pub few : a.taken ≤ length chunk
  pub accepted : accepts next (rule h).state (take a.taken chunk) ≡ true
  pub fit : Fits rule h (take a.taken chunk) w m
  pub longest : (n : ℕ) → n ≤ length chunk → accepts next (rule h).state (take n chunk) ≡ true → Fits rule h (take n chunk) w m → n ≤ a.taken
  pub number_7 : a.number ≡ forbidden_byte → (a.taken < length chunk) × (next a.after (get_or chunk a.taken 0) ≡ none)
  pub number_0 : (a.number ≡ forbidden_byte → ⊥)
      → (a.number ≡ done) × (a.taken < length chunk → next a.after (get_or chunk a.taken 0) ≡ none → ⊥)

-- ---- pushes, and one push; and that there are pushes

-- the answer of one push that does what pushes came to: done, n bytes taken, these bytes and ends handed out, and this state
abbrev pub came_to : {S : Type 0} → ℕ → S → List ℕ → List ℕ → Answer S
came_to n s given ends = record { number = done; taken = n; bytes = given; marks = ends; after = s }

-- each push of a trace was lent w bytes and m marks
abbrev pub Lent : {S : Type 0} {next : Next S} {entry : Entry S} {s₀ : S} {stream : List ℕ} {n : ℕ} {s : S} {given ends : List ℕ}
    → ℕ → ℕ → Pushes next entry s₀ stream n s given ends → Type 0
Lent w m Pushes.none_yet = Unit
Lent w m (Pushes.one_more p k out marks out' marks' number taken wrote marked_n s' o) = (length out ≡ w) × (length marks ≡ m) × Lent w m p

-- THERE IS A WAY: pushes that take n bytes of the stream, each lent w bytes and m marks and no more
pub record Way {S : Type 0} (next : Next S) (entry : Entry S) (s₀ : S) (stream : List ℕ) (n w m : ℕ) : Type 0 where
  pub state : S
  pub given : List ℕ
  pub ends : List ℕ
  pub pushes : Pushes next entry s₀ stream n state given ends
  pub lent : Lent w m pushes
