-- A push's loop: where it stands after some bytes, one byte more, and where it stops. For every reader and writer alike.
use Prim.Native.Nat.{ℕ, ◌+◌, ◌-◌, ◌≤◌, ◌<◌}
use native.Mathlib.Omega.{arith}
use native.Mathlib.Nat.{le_refl}
use native.Mathlib.Numerals.{add-one}
use mathlib.Core.Path.{◌≡◌, refl, ap, ap₂, sym, ◌∙◌, subst⁻¹}
use mathlib.Core.Bool.{Bool, true, false, ◌&&◌, and-false}
use mathlib.Core.List.{List, [], ◌∷◌, ◌++◌, append_assoc, append-nil}
use mathlib.Core.Option.{none, some}
use lib.Dec.{leb}
use lib.ListN.{length, take, drop, get_or, length-append, length-drop, length-take, take-append-drop, drop_of_length-le}
use lib.Seq.{take_all, take_at, drop_at, drop-cons, drop-drop, length-take-le, drop-length}
use borrow.Author.Tests.{le-leb, lt-leb, ne_eqb}
use borrow.Rule.Slice.PartMut.{mid_of, post_of, put_mid, Post-is}
use Rattle.desk.specs.Room.{with_front}
use Rattle.desk.specs.Push.{Out, Next, Answer, answers, marked, took, fits, forbidden, run, push_of, Gives}
use Rattle.desk.proofs.Room.{with_front_none}

-- ---- a run, by its first byte

module _ {S : Type 0} (next : Next S) (w m : ℕ) (a : Answer S) where
  pub run_ends : run next w m a [] ≡ a
  unfolding run
  run_ends = refl

  module _ (b : ℕ) (bs : List ℕ) where
    pub run_takes : (o : Out S) → next a.after b ≡ some o → fits w m a o ≡ true → run next w m a (b ∷ bs) ≡ run next w m (took a o) bs
    unfolding run
    run_takes o e f = rw (e, f)

    pub run_stops : (o : Out S) → next a.after b ≡ some o → fits w m a o ≡ false → run next w m a (b ∷ bs) ≡ a
    unfolding run
    run_stops o e f = rw (e, f)

    pub run_forbidden : next a.after b ≡ none → run next w m a (b ∷ bs) ≡ forbidden a
    unfolding run
    run_forbidden e = rw e

-- ---- a room written from the place w on

pub record WroteFront (w n : ℕ) (x l l' : List ℕ) : Type 0 where
  pub count : length x ≡ n
  pub room : w + n ≤ length l
  pub front : take (w + n) l' ≡ take w l ++ x
  pub back : drop (w + n) l' ≡ drop (w + n) l
  pub long : length l' ≡ length l

-- the part that was lent from w on came back with x at its front
pub wrote : (w n : ℕ) (x l part : List ℕ) → w ≤ length l → n ≤ length l - w → length x ≡ n → part ≡ with_front (mid_of w (length l - w) l) x
    → WroteFront w n x l (put_mid w (length l - w) l part)
unfolding with_front
wrote w n x l part h k lx e =
    let mid : mid_of w (length l - w) l ≡ drop w l = take_all (length l - w) (drop w l) (simp length-drop (le_refl _)) in
    let none : post_of w (length l - w) l ≡ [] = Post-is w (length l) l h ∙ drop-length l in
    let is : put_mid w (length l - w) l part ≡ (take w l ++ x) ++ drop (w + n) l =
    ap₂ (λ (a b : List ℕ). take w l ++ (a ++ b))
    (e ∙ ap₂ (λ (k : ℕ) (r : List ℕ). x ++ drop k r) lx mid ∙ ap (λ (r : List ℕ). x ++ r) (drop-drop n w l)) none ∙ simp (append_assoc, append-nil) in
    let len : length (take w l ++ x) ≡ w + n = length-append (take w l) x ∙ ap₂ ◌+◌ (length-take-le w l h) lx in
    record {
      count = lx;
      room = omega arith;
      front = ap (take (w + n)) is ∙ take_at (take w l ++ x) (drop (w + n) l) (w + n) len;
      back = ap (drop (w + n)) is ∙ drop_at (take w l ++ x) (drop (w + n) l) (w + n) len;
      long = ap length is ∙ simp (length-append, length-drop, length-take) (omega (arith, lx));
    }

kept : (w n : ℕ) (l l₀ : List ℕ) → drop w l ≡ drop w l₀ → drop (w + n) l ≡ drop (w + n) l₀
kept w n l l₀ e = sym (drop-drop n w l) ∙ ap (drop n) e ∙ drop-drop n w l₀

whole : (w : ℕ) (l l₀ : List ℕ) → w ≤ length l → drop w l ≡ drop w l₀ → l ≡ with_front l₀ (take w l)
unfolding with_front
whole w l l₀ h e = sym (take-append-drop w l) ∙ ap (λ (r : List ℕ). take w l ++ r) (e ∙ ap (λ (n : ℕ). drop n l₀) (sym (length-take-le w l h)))

-- ---- a push, after t bytes taken, w bytes and m marks written

-- what was answered so far, by what the rooms hold
abbrev pub sofar : {S : Type 0} → List ℕ → List ℕ → S → ℕ → ℕ → ℕ → Answer S
sofar out marks s t w m = record { number = 0; taken = t; bytes = take w out; marks = take m marks; after = s }

-- the loop's invariant: what is left to do from here comes to what was to be done from the start
pub record Going {S : Type 0} (next : Next S) (chunk out₀ marks₀ : List ℕ) (s₀ : S) (out marks : List ℕ) (s : S) (t w m : ℕ) : Type 0 where
  pub same : run next (length out₀) (length marks₀) (answers 0 s₀) chunk
      ≡ run next (length out₀) (length marks₀) (sofar out marks s t w m) (drop t chunk)
  pub few : t ≤ length chunk
  pub out_few : w ≤ length out
  pub marks_few : m ≤ length marks
  pub out_long : length out ≡ length out₀
  pub marks_long : length marks ≡ length marks₀
  pub out_kept : drop w out ≡ drop w out₀
  pub marks_kept : drop m marks ≡ drop m marks₀

answer_is : {S : Type 0} (t : ℕ) {b b' m m' : List ℕ} {s : S} → b ≡ b' → m ≡ m'
    → ◌≡◌ {A = Answer S} (record { number = 0; taken = t; bytes = b; marks = m; after = s })
    (record { number = 0; taken = t; bytes = b'; marks = m'; after = s })
answer_is {S} t {b} {b'} {m} {m'} {s} p q i = record { number = 0; taken = t; bytes = p i; marks = q i; after = s }

module _ {S : Type 0} {next : Next S} {chunk out₀ marks₀ : List ℕ} {s₀ : S} {out marks : List ℕ} {s : S} {t w m : ℕ}
    (g : Going next chunk out₀ marks₀ s₀ out marks s t w m) where
  abbrev Ran : Answer S → Type 0
  Ran a = run next (length out₀) (length marks₀) (answers 0 s₀) chunk ≡ a

  out_len : length (take w out) ≡ w
  out_len = length-take-le w out g.out_few

  marks_len : length (take m marks) ≡ m
  marks_len = length-take-le m marks g.marks_few

  module _ {b : ℕ} (h : t < length chunk) (e : b ≡ get_or chunk t 0) where
    at_byte : Ran (run next (length out₀) (length marks₀) (sofar out marks s t w m) (b ∷ drop (t + 1) chunk))
    at_byte =
        g.same ∙ ap (run next (length out₀) (length marks₀) (sofar out marks s t w m))
        (drop-cons chunk t 0 h ∙ ap₂ {C = List ℕ} (λ x n. x ∷ drop n chunk) (sym e) (sym (add-one t)))

    -- the byte is forbidden
    pub stop_forbidden : next s b ≡ none → Ran (forbidden (sofar out marks s t w m))
    stop_forbidden q = at_byte ∙ run_forbidden next (length out₀) (length marks₀) (sofar out marks s t w m) b (drop (t + 1) chunk) q

    module _ (o : Out S) (q : next s b ≡ some o) (n k : ℕ) (en : length o.bytes ≡ n) (ek : length (marked o.mark (take w out)) ≡ k) where
      fits_is : fits (length out₀) (length marks₀) (sofar out marks s t w m) o ≡ (leb (w + n) (length out₀) && leb (m + k) (length marks₀))
      fits_is = ap₂ (λ (x y : ℕ). leb x (length out₀) && leb y (length marks₀)) (ap₂ ◌+◌ out_len en) (ap₂ ◌+◌ marks_len ek)

      -- what it releases does not fit
      pub stop_full : length out - w < n → Ran (sofar out marks s t w m)
      stop_full f =
          at_byte ∙ run_stops next (length out₀) (length marks₀) (sofar out marks s t w m) b (drop (t + 1) chunk) o q
          (fits_is ∙ ap (λ (c : Bool). c && leb (m + k) (length marks₀)) (lt-leb (w + n) (length out₀) (omega arith)))

      pub stop_full_marks : length marks - m < k → Ran (sofar out marks s t w m)
      stop_full_marks f =
          at_byte ∙ run_stops next (length out₀) (length marks₀) (sofar out marks s t w m) b (drop (t + 1) chunk) o q
          (fits_is ∙ ap (λ (c : Bool). leb (w + n) (length out₀) && c) (lt-leb (m + k) (length marks₀) (omega arith))
          ∙ and-false (leb (w + n) (length out₀)))

      -- it is taken
      pub going_more : {out' marks' : List ℕ} → WroteFront w n o.bytes out out' → WroteFront m k (marked o.mark (take w out)) marks marks'
          → Going next chunk out₀ marks₀ s₀ out' marks' o.after (t + 1) (w + n) (m + k)
      going_more wo wm =
          record {
            same =
                at_byte ∙ run_takes next (length out₀) (length marks₀) (sofar out marks s t w m) b (drop (t + 1) chunk) o q
                (fits_is ∙ ap₂ ◌&&◌ (le-leb (w + n) (length out₀) (omega (arith, wo.room)))
                (le-leb (m + k) (length marks₀) (omega (arith, wm.room))))
                ∙ ap (λ (a : Answer S). run next (length out₀) (length marks₀) a (drop (t + 1) chunk))
                (answer_is (t + 1) (sym wo.front) (sym wm.front));
            few = omega arith;
            out_few = omega (arith, wo.room, wo.long);
            marks_few = omega (arith, wm.room, wm.long);
            out_long = wo.long ∙ g.out_long;
            marks_long = wm.long ∙ g.marks_long;
            out_kept = wo.back ∙ kept w n out out₀ g.out_kept;
            marks_kept = wm.back ∙ kept m k marks marks₀ g.marks_kept;
          }

  -- no byte is left
  pub stop_end : length chunk ≤ t → Ran (sofar out marks s t w m)
  stop_end k =
      g.same ∙ ap (run next (length out₀) (length marks₀) (sofar out marks s t w m)) (drop_of_length-le chunk k)
      ∙ run_ends next (length out₀) (length marks₀) _

  -- what the call then returns, by what the run came to
  pub gives : (n : ℕ) → Ran (record { number = n; taken = t; bytes = take w out; marks = take m marks; after = s })
      → Gives (run next (length out₀) (length marks₀) (answers 0 s₀) chunk) out₀ marks₀ out marks n t w m s
  gives n q =
      subst⁻¹ (λ (a : Answer S). Gives a out₀ marks₀ out marks n t w m s) q
      (record {
        number_is = refl;
        taken_is = refl;
        wrote_is = sym out_len;
        marked_is = sym marks_len;
        state_is = refl;
        room = whole w out out₀ g.out_few g.out_kept;
        mark_room = whole m marks marks₀ g.marks_few g.marks_kept;
      })

-- a push that passes its entry checks runs
pub push_runs : {S : Type 0} (next : Next S) (entry : ℕ) (s : S) (chunk : List ℕ) (w m : ℕ) → entry ≡ 0
    → push_of next entry s chunk w m ≡ run next w m (answers 0 s) chunk
unfolding push_of
push_runs next entry s chunk w m z = rw z

-- a call that answers a number alone
pub gives_alone : {S : Type 0} (n : ℕ) (s : S) (out marks : List ℕ) → Gives (answers n s) out marks out marks n 0 0 0 s
gives_alone n s out marks =
    record {
      number_is = refl;
      taken_is = refl;
      wrote_is = refl;
      marked_is = refl;
      state_is = refl;
      room = with_front_none out;
      mark_room = with_front_none marks;
    }

-- a push that the entry checks refuse
pub gives_refused : {S : Type 0} (next : Next S) (entry : ℕ) (s : S) (chunk out marks : List ℕ) → (entry ≡ 0 → ⊥)
    → Gives (push_of next entry s chunk (length out) (length marks)) out marks out marks entry 0 0 0 s
unfolding push_of
gives_refused next entry s chunk out marks h = rw (ne_eqb entry 0 h) (gives_alone entry s out marks)
