-- A whole NAL: the first pass over its tail, and the answer by the rule.
use Prim.Native.Nat.{ℕ, zero, suc, ◌+◌, ◌-◌, ◌≤◌, ◌<◌}
use native.Mathlib.Omega.{arith}
use native.Mathlib.Numerals.{add-one}
use mathlib.Core.Path.{◌≡◌, refl, ap, sym, ◌∙◌, subst}
use mathlib.Core.Bool.{Bool, true, false, cond, ◌&&◌}
use mathlib.Core.List.{List, [], ◌∷◌, ◌++◌}
use mathlib.Core.Option.{Option, none, some}
use denote.Bor.{Bor}
use lib.ListN.{length, take, drop, get_or, length-append, length-replicate, length-take, length-drop}
use lib.Seq.{take-length, take_all, take-suc, split_at, length-take-le}
use lib.Dec.{ltb}
use borrow.Author.Tests.{le-ltb, lt-ltb}
use Rattle.std.specs.Prelude.{Result, Ok, Err, Option as CodeOption}
use Rattle.std.specs.Prelude.{IsOk, MatchOption}
use Rattle.std.specs.Option.{ok_or}
use Rattle.std.specs.List.{IsFirstAndRest}
use Rattle.desk.specs.Numbers.{most, any_over, entry_of}
use Rattle.desk.specs.Steps.{released, out_of, step_out}
use Rattle.desk.specs.declared.push.Step.{Step}
use Rattle.desk.specs.Push.{Out, Answer, Seen, push_of, push_by, Gives, Pushes}
use Rattle.desk.specs.Refusing.{refusal_number, answered}
use Rattle.desk.specs.Room.{with_front}
use Rattle.desk.specs.Search.{is3, stands, first, trail}
use Rattle.desk.specs.Zeros.{two}
use Rattle.desk.specs.declared.refusal.Refusal.{Refusal}
use Rattle.desk.specs.declared.push.Pushed.{Pushed}
use Rattle.desk.proofs.Entering.{entry_done, entry_passed}
use Rattle.desk.proofs.Lists.{snoc_ind}
use Rattle.desk.proofs.Refusing.{number_some}
use Rattle.desk.proofs.Room.{with_front_none}
use Rattle.desk.proofs.Search.{first_is}
use Rattle.desk.proofs.Taking.{push_longest, whole_push}
use Rattle.rbsp.specs.Rule.{unescape, Legal, first_break}
use Rattle.rbsp.specs.Step.{read_step, skipping, reader_after, read_entry}
use Rattle.rbsp.specs.Answer.{refuses, fills, decode_tail, decode_kept, decode_of, number_of, value_of, Decodes}
use Rattle.rbsp.specs.Answer.{Surveys, ReadPush, read_number, Fillable, decode_nal}
use Rattle.rbsp.specs.declared.nal.Decoded.{Decoded}
use Rattle.rbsp.specs.declared.nal.Decoded.TheVariants.{Own, Filled}
use Rattle.rbsp.specs.declared.nal.Undecoded.{Undecoded}
use Rattle.rbsp.specs.declared.nal.Undecoded.TheVariants.{TooLong, Empty, Forbidden, NoRoom}
use Rattle.rbsp.specs.declared.reader.ParseState.{ParseState}
use Rattle.rbsp.specs.declared.reader.Stopped.{Stopped}
use Rattle.rbsp.proofs.Breaking.{taken_unbroken, none_legal}
use Rattle.rbsp.proofs.Legality.{forbidden_broken, legal_accepts}
use Rattle.rbsp.proofs.Mapping.{err_mapped, mapped_ok, mapped_err, ok_or_none, ok_or_some}
use Rattle.rbsp.proofs.Pushing.{next_short, ok_of}
use Rattle.rbsp.proofs.Traces.{legal_no_7}
use Rattle.rbsp.proofs.Unescaping.{kept, unescape_more, unescape_nil, unescape_none, unescape_some, read_follows}

-- ---- the first pass, after i bytes of the tail
pub record Surveying (tail : List ℕ) (state : ParseState) (count i : ℕ) : Type 0 where
  pub within : i ≤ length tail
  pub few : count ≤ i
  pub unbroken : first_break (take i tail) ≡ none
  pub state_is : reader_after 0 (take i tail) ≡ state
  pub count_is : length (unescape (take i tail)) ≡ count

pub surveying_none : (tail : List ℕ) → Surveying tail (skipping 0) 0 0
unfolding unescape
surveying_none tail = record { within = omega arith; few = omega arith; unbroken = refl; state_is = refl; count_is = refl }

pub surveying_all : {tail : List ℕ} {state : ParseState} {count i : ℕ} → Surveying tail state count i → length tail ≤ i
    → (first_break tail ≡ none) × (count ≡ length (unescape tail))
surveying_all {tail} {state} {count} {i} v h =
    let all : take i tail ≡ tail = take_all i tail h in
    (sym (ap first_break all) ∙ v.unbroken, sym v.count_is ∙ ap (λ (l : List ℕ). length (unescape l)) all)

module _ {tail : List ℕ} {state : ParseState} {count i : ℕ} (v : Surveying tail state count i) (h : i < length tail) where
  one_more : take (i + 1) tail ≡ take i tail ++ get_or tail i 0 ∷ []
  one_more = ap (λ (n : ℕ). take n tail) (add-one i) ∙ take-suc tail i 0 h

  pub surveying_more : (o : Out ParseState) → read_step state (get_or tail i 0) ≡ some o → Surveying tail o.after (count + length o.bytes) (i + 1)
  surveying_more o q =
      let b = get_or tail i 0 in
      let q' : read_step (reader_after 0 (take i tail)) b ≡ some o = ap (λ (s : ParseState). read_step s b) v.state_is ∙ q in
      let e = (read_follows 0).more (take i tail) b o q' in
      let c = v.count_is in
      record {
        within = omega arith;
        few = omega (arith, v.few, (next_short state b o q).one);
        unbroken = ap first_break one_more ∙ taken_unbroken 0 (take i tail) b o v.unbroken q';
        state_is = ap (reader_after 0) one_more ∙ ap (λ (x : Seen ParseState). x.state) e;
        count_is =
            ap (λ (l : List ℕ). length (unescape l)) one_more ∙ ap (λ (x : Seen ParseState). length x.bytes) e
            ∙ length-append (unescape (take i tail)) o.bytes ∙ ap (λ (n : ℕ). n + length o.bytes) c;
      }

  pub surveying_forbidden : read_step state (get_or tail i 0) ≡ none → first_break tail ≡ some i
  surveying_forbidden q =
      let b = get_or tail i 0 in
      let f = forbidden_broken 0 (take i tail) b (drop (suc i) tail) v.unbroken (ap (λ (s : ParseState). read_step s b) v.state_is ∙ q) in
      let p = f.place_is in
      let at : f.place ≡ i = omega (arith, length-take-le i tail v.within) in
      ap first_break (split_at tail i 0 h) ∙ f.breaks ∙ ap some at

-- the first pass, by what the code's step answers
released_count : (n b : ℕ) → length (released 0 n b) ≡ n
released_count zero b = refl
released_count (suc n) b = simp (length-append, length-replicate) (omega arith)

module _ {tail : List ℕ} {state : ParseState} {count i : ℕ} (v : Surveying tail state count i) (h : i < length tail)
    (r : CodeOption (Step ParseState))
    (e : step_out 0 (get_or tail i 0) r ≡ read_step state (get_or tail i 0)) where
  pub survey_stops : (x : ℕ) → ok_or r i ≡ Err x → Surveys tail (Err x)
  survey_stops x q =
      let p = ok_or_none r i x q in
      subst (λ (n : ℕ). (first_break tail ≡ some n) × (n < length tail)) p.1
      (surveying_forbidden v h (sym e ∙ ap (step_out 0 (get_or tail i 0)) p.0), h)

  pub survey_goes_on : (s : Step ParseState) → ok_or r i ≡ Ok s → Surveying tail s.after (count + s.count) (i + 1)
  survey_goes_on s q =
      let b = get_or tail i 0 in
      subst (λ (n : ℕ). Surveying tail s.after (count + n) (i + 1)) (released_count s.count b)
      (surveying_more v h (out_of 0 b s) (sym e ∙ ap (step_out 0 b) (ok_or_some r i s q)))

-- ---- what is removed, by lengths

one_at_most : (c : Bool) (b : ℕ) → length (cond c [] (b ∷ [])) ≤ 1
one_at_most true b = omega arith
one_at_most false b = omega arith

pub unescape_few : (s : List ℕ) → length (unescape s) ≤ length s
unescape_few =
    snoc_ind (λ (s : List ℕ). length (unescape s) ≤ length s) (rw unescape_nil (omega arith))
    (λ h b i.
    let u : length (unescape (h ++ b ∷ [])) ≡ length (unescape h) + length (kept (trail h) b) =
    ap length (unescape_more h b) ∙ length-append (unescape h) (kept (trail h) b) in
    omega (arith, i, u, one_at_most (two (trail h) && is3 b) b, length-append h (b ∷ [])))

stands_long : (third : ℕ → Bool) (s : List ℕ) → stands third s ≡ true → 3 ≤ length s
stands_long third [] e = cc
stands_long third (x ∷ []) e = cc
stands_long third (x ∷ y ∷ []) e = cc
stands_long third (x ∷ y ∷ z ∷ s) e = omega arith

-- where a 03 is removed the list is shorter
pub removed_shorter : (s : List ℕ) (i : ℕ) → first is3 s ≡ some i → length (unescape s) < length s
removed_shorter s i e =
    let d = drop 3 (drop i s) in
    let n : length (unescape s) ≡ length (take i s) + length (0 ∷ 0 ∷ unescape d) =
    ap length (unescape_some s i e) ∙ length-append (take i s) (0 ∷ 0 ∷ unescape d) in
    omega (arith, n, unescape_few d, stands_long is3 (drop i s) (first_is is3 s i e).0, length-drop i s, length-drop 3 (drop i s), length-take i s)

-- ---- the answer

module _ (w : ℕ) (nal : List ℕ) (some_nal : 1 ≤ length nal) (nf : length nal ≤ most) (wf : w ≤ most) where
  abbrev behind : List ℕ
  behind = drop 1 nal

  decode_entered : decode_of nal w ≡ decode_tail w behind (first_break behind)
  unfolding decode_of
  decode_entered = rw (le-ltb most (length nal) nf, le-ltb most w wf) (go nal some_nal)
    where
      go : (l : List ℕ) → 1 ≤ length l → decode_nal w l ≡ decode_tail w (drop 1 l) (first_break (drop 1 l))
      go [] h = absurd (omega arith)
      go (x ∷ l) h = refl

  pub decode_forbidden : (k : ℕ) → first_break behind ≡ some k → decode_of nal w ≡ record { number = 7; value = some (suc k); bytes = [] }
  decode_forbidden k e = decode_entered ∙ ap (decode_tail w behind) e

  module _ (e : first_break behind ≡ none) where
    decode_kept_lem : decode_of nal w ≡ decode_kept w behind (first is3 behind)
    decode_kept_lem = decode_entered ∙ ap (decode_tail w behind) e

    pub decode_own : length (unescape behind) ≡ length behind → decode_of nal w ≡ record { number = 0; value = none; bytes = [] }
    decode_own l = decode_kept_lem ∙ go (first is3 behind) refl
      where
        go : (r : Option ℕ) → first is3 behind ≡ r → decode_kept w behind r ≡ record { number = 0; value = none; bytes = [] }
        go none q = refl
        go (some i) q = let z : ⊥ = omega (arith, removed_shorter behind i q) in absurd z

    decode_removed : (length (unescape behind) ≡ length behind → ⊥)
        → decode_of nal w ≡ cond (ltb w (length (unescape behind))) (refuses 10) (fills behind)
    decode_removed n = decode_kept_lem ∙ go (first is3 behind) refl
      where
        go : (r : Option ℕ) → first is3 behind ≡ r
            → decode_kept w behind r ≡ cond (ltb w (length (unescape behind))) (refuses 10) (fills behind)
        go none q = absurd (n (ap length (unescape_none behind q)))
        go (some i) q = refl

    pub decode_no_room : (length (unescape behind) ≡ length behind → ⊥) → w < length (unescape behind) → decode_of nal w ≡ refuses 10
    decode_no_room n l = decode_removed n ∙ rw (lt-ltb w (length (unescape behind)) l)

    pub decode_filled : (length (unescape behind) ≡ length behind → ⊥) → length (unescape behind) ≤ w → decode_of nal w ≡ fills behind
    decode_filled n l = decode_removed n ∙ rw (le-ltb w (length (unescape behind)) l)

-- ---- the code's answers

-- an answer that writes nothing
alone : (nal room : List ℕ) (r : Result Decoded Undecoded) (n : ℕ) (v : Option ℕ)
    → decode_of nal (length room) ≡ record { number = n; value = v; bytes = [] } → number_of r ≡ n → value_of r ≡ v → Decodes nal room room r
alone nal room r n v e en ev = record { number_is = rw e en; value_is = rw e ev; room_is = rw e (with_front_none room) }

module _ (nal room : List ℕ) (r : Result Unit Refusal) (e : answered r ≡ entry_of (length nal ∷ length room ∷ 0 ∷ []) false) where
  -- a refusal of the entry checks
  pub says_long : (d : Undecoded) → Err d ≡ err_mapped (λ _. TooLong) r → Decodes nal room room (Err d)
  unfolding decode_of entry_of
  says_long d q =
      let m = mapped_err (λ _. TooLong) r d q in
      let n = rw m.1 at e in
      rw m.2 (long (any_over (length nal ∷ length room ∷ [])) refl m.0 n)
    where
      long : (c : Bool) → any_over (length nal ∷ length room ∷ []) ≡ c → (x : Refusal) → refusal_number x ≡ cond c 1 0
          → Decodes nal room room (Err TooLong)
      long true o x n = alone nal room (Err TooLong) 1 none (rw o) refl refl
      long false o x n = let z = number_some x in absurd (omega arith)

  module _ (x : Unit) (passes : Ok x ≡ err_mapped (λ _. TooLong) r) where
    few : (length nal ≤ most) × (length room ≤ most)
    few =
        let n = rw (mapped_ok (λ _. TooLong) r x passes) at e in
        let p = (entry_passed (length nal ∷ length room ∷ 0 ∷ []) false (sym n)).0 in (p.0, p.1.0)

    module _ (o : CodeOption (Bor ℕ × Bor (List ℕ))) (s : MatchOption o (length nal ≡ 0) (λ p. IsFirstAndRest nal p.0.now p.1.now)) where
      pub says_empty : (d : Undecoded) → Err d ≡ ok_or o Empty → Decodes nal room room (Err d)
      unfolding decode_of
      says_empty d q =
          let m = ok_or_none o Empty d (sym q) in
          let none_left : length nal ≡ 0 = rw m.0 at s in
          rw (sym m.1) (empty nal none_left)
        where
          empty : (nal : List ℕ) → length nal ≡ 0 → Decodes nal room room (Err Empty)
          empty [] z = alone [] room (Err Empty) 8 none (rw (le-ltb most (length room) few.1)) refl refl
          empty (x ∷ nal) z = absurd (omega arith)

      -- a NAL behind its header
      module _ (h : Bor ℕ) (t : Bor (List ℕ)) (q : Ok (h, t) ≡ ok_or o Empty) (v : Result ℕ ℕ) (found : Surveys t.now v) where
        nal_is : nal ≡ h.now ∷ t.now
        nal_is = let f = rw (ok_or_some o Empty (h, t) (sym q)) at s in f.0

        found_in : Surveys (drop 1 nal) v
        found_in = rw nal_is found

        some_nal : 1 ≤ length nal
        some_nal = rw nal_is (omega arith)

        pub says_forbidden : (d : Undecoded) → Err d ≡ err_mapped (λ i. Forbidden (i + 1)) v → Decodes nal room room (Err d)
        says_forbidden d p =
            let m = mapped_err (λ i. Forbidden (i + 1)) v d p in
            let k = m.0 in
            let f = rw m.1 at found_in in
            rw m.2 (alone nal room (Err (Forbidden (k + 1))) 7 (some (suc k)) (decode_forbidden (length room) nal some_nal few.0 few.1 k f.0) refl
            (ap some (add-one k)))

        pub fillable : (n : ℕ) → Ok n ≡ err_mapped (λ i. Forbidden (i + 1)) v → Fillable nal room n
        fillable n p =
            let f = rw (mapped_ok (λ i. Forbidden (i + 1)) v n p) at found_in in
            record { some_nal = some_nal; nal_few = few.0; room_few = few.1; unbroken = f.0; kept_is = f.1 }

-- a push of all of a legal list meets no forbidden byte
legal_push : (skip : ℕ) (stream out out' : List ℕ) (number taken wrote marked : ℕ) (s' : ParseState) → Legal (drop skip stream)
    → Gives (push_by read_step read_entry (skipping skip) stream (length out) 0) out [] out' [] number taken wrote marked s' → number ≡ 7 → ⊥
legal_push skip stream out out' number taken wrote marked s' l g =
    legal_no_7 skip {stream = stream} l Pushes.none_yet (length stream) out [] out' [] number taken wrote marked s'
    (subst (λ (x : List ℕ). Gives (push_by read_step read_entry (skipping skip) x (length out) 0) out [] out' [] number taken wrote marked s')
    (sym (take-length stream)) g)

module _ {nal room : List ℕ} {n : ℕ} (f : Fillable nal room n) where
  abbrev tail : List ℕ
  tail = drop 1 nal

  all_kept : n ≡ length nal - 1 → length (unescape tail) ≡ length tail
  all_kept e = omega (arith, f.kept_is, length-drop 1 nal)

  some_removed : (n ≡ length nal - 1 → ⊥) → length (unescape tail) ≡ length tail → ⊥
  some_removed l e = l (omega (arith, f.kept_is, length-drop 1 nal))

  pub says_own : n ≡ length nal - 1 → Decodes nal room room (Ok Own)
  says_own e =
      alone nal room (Ok Own) 0 none (decode_own (length room) nal f.some_nal f.nal_few f.room_few f.unbroken (all_kept e)) refl refl

  pub says_no_room : (n ≡ length nal - 1 → ⊥) → length room < n → Decodes nal room room (Err NoRoom)
  says_no_room l m =
      alone nal room (Err NoRoom) 10 none
      (decode_no_room (length room) nal f.some_nal f.nal_few f.room_few f.unbroken (some_removed l) (omega (arith, f.kept_is))) refl refl

  -- the reader's push of the NAL
  module _ (s s' : ParseState) (start : s ≡ skipping 1) (room' : List ℕ) (r : Result Pushed Stopped) (p : ReadPush s s' nal room room' r) where
    pushed : ReadPush (skipping 1) s' nal room room' r
    pushed = subst (λ (x : ParseState). ReadPush x s' nal room room' r) start p

    abbrev pushing : ℕ → Answer ParseState
    pushing k = push_of read_step k (skipping 1) nal (length room) 0

    enters : read_entry (skipping 1) (length nal) (length room) 0 ≡ 0
    enters = entry_done (length nal ∷ length room ∷ 0 ∷ []) false (f.nal_few, (f.room_few, (omega arith, tt))) refl

    -- it meets no forbidden byte, whatever the room is
    pub is_done : IsOk r
    is_done =
        let g = pushed.gives in
        let never = legal_push 1 nal room room' _ _ _ _ s' (none_legal tail f.unbroken) g in
        let e : read_number r ≡ (pushing 0).number = g.number_is ∙ ap (λ (k : ℕ). (pushing k).number) enters in
        ok_of r (e ∙ ((push_longest (read_follows 1) [] nal (length room) 0).number_0 (λ z. never (e ∙ z))).0)

    -- given room for all, it takes all of the NAL
    pub says_filled : (n ≡ length nal - 1 → ⊥) → n ≤ length room → (q : Pushed) → r ≡ Ok q → Decodes nal room room' (Ok (Filled q.written))
    says_filled l m q e =
        let d = decode_filled (length room) nal f.some_nal f.nal_few f.room_few f.unbroken (some_removed l) (omega (arith, f.kept_is)) in
        let g = rw e at pushed.gives in
        let bytes : (push_by read_step read_entry (skipping 1) nal (length room) 0).bytes ≡ unescape tail =
        ap (λ (k : ℕ). (pushing k).bytes) enters
        ∙ ap (λ (a : Answer ParseState). a.bytes)
        (whole_push (read_follows 1) nal (length room) 0 (legal_accepts 1 nal f.unbroken) (omega (arith, f.kept_is)) (omega arith)) in
        record {
          number_is = rw d refl;
          value_is = rw d (ap some (g.wrote_is ∙ ap length bytes));
          room_is = rw d (g.room ∙ ap (with_front room) bytes);
        }
