-- READING AND WRITING, however the bytes are cut into pushes and whatever room is lent.
use Prim.Native.Nat.{ℕ, zero, suc, ◌+◌, ◌≤◌, ◌<◌, zero-le}
use native.Mathlib.Omega.{arith}
use mathlib.Core.Path.{◌≡◌, refl, ap, ap₂, sym, ◌∙◌, subst}
use mathlib.Core.Bool.{false}
use mathlib.Core.List.{List, [], ◌∷◌, ◌++◌}
use mathlib.Core.Option.{none}
use lib.ListN.{length, take, drop, get_or, length-take, length-drop}
use lib.Seq.{get_or-take, get_or-drop, split_at, length-take-le, take-length, drop-cons}
use Rattle.std.specs.Prelude.{Result}
use Rattle.desk.specs.Numbers.{most}
use Rattle.desk.specs.Push.{Answer, answers, Seen, push_of, push_by, PushesOn, shifted, accepts}
use Rattle.desk.specs.Push.Pushes.{one_more}
use Rattle.desk.specs.Search.{trail}
use Rattle.desk.specs.declared.push.Pushed.{Pushed}
use Rattle.desk.proofs.Cutting.{pushes_cut}
use Rattle.desk.proofs.Entering.{entry_done, entry_few}
use Rattle.desk.proofs.Search.{none≢some}
use Rattle.desk.proofs.Accepting.{pushes_accepted}
use Rattle.desk.proofs.Once.{at_once}
use Rattle.desk.proofs.Taking.{push_refused, push_longest, stops_first}
use Rattle.rbsp.specs.Rule.{unescape, Legal, first_break}
use Rattle.rbsp.specs.Step.{read_step, skipping, bad_reader, read_entry, reader_after, zeros}
use Rattle.rbsp.specs.Promise.{ReadTrace, WriteTrace, Reading, Seventh, Writing}
use Rattle.rbsp.specs.Answer.{ReadGave, ReadPush}
use Rattle.rbsp.specs.declared.reader.ParseState.{ParseState}
use Rattle.rbsp.specs.declared.reader.Stopped.{Stopped}
use Rattle.rbsp.specs.declared.writer.ByteWriter.{ByteWriter}
use Rattle.rbsp.proofs.Back.{unescape_escape, escape_legal}
use Rattle.rbsp.proofs.Breaking.{none_legal, legal_none}
use Rattle.rbsp.proofs.Escaping.{write_follows}
use Rattle.rbsp.proofs.Legality.{forbidden_broken, accepts_legal}
use Rattle.rbsp.proofs.Rooms.{new_good, read_good}
use Rattle.rbsp.proofs.Unescaping.{reader_new, read_follows}

unbroken_so_far : (skip : ℕ) {stream : List ℕ} {n : ℕ} {s : ParseState} {given ends : List ℕ} → ReadTrace skip stream n s given ends
    → first_break (drop skip (take n stream)) ≡ none
unbroken_so_far skip {stream} {n} p =
    accepts_legal skip (take n stream)
    (ap (λ (x : ParseState). accepts read_step x (take n stream)) (sym (reader_new skip)) ∙ pushes_accepted (read_follows skip) p)

-- DELIVERED BYTES ARE `unescape` OF WHAT WAS TAKEN PAST THE SKIP, after each push
pub reading : (skip : ℕ) {stream : List ℕ} {n : ℕ} {s : ParseState} {given ends : List ℕ} → ReadTrace skip stream n s given ends
    → Reading skip stream n s given
reading skip {stream} {n} {s} {given} {ends} p =
    let c = pushes_cut (read_follows skip) p in
    let unmarked : ends ≡ [] = sym (ap (λ (v : Seen ParseState). v.ends) c.rule_gives) in
    record {
      within = c.within;
      bytes = sym (ap (λ (v : Seen ParseState). v.bytes) c.rule_gives);
      state = sym (ap (λ (v : Seen ParseState). v.state) c.rule_gives);
      legal = none_legal (drop skip (take n stream)) (unbroken_so_far skip p);
      at_once = λ s' out out' r o nf rf hold.
          record {
            gives =
                at_once (read_follows skip) (subst (ReadTrace skip stream n s given) unmarked p) out [] out' [] _ _ _ _ s' o.gives
                (entry_done (n ∷ length out ∷ 0 ∷ []) (bad_reader (skipping skip)) (nf, (rf, (zero-le, tt))) (new_good skip)) hold zero-le;
            delivers = o.delivers;
          };
    }

-- the byte behind n + t bytes of the stream
next_byte : (stream : List ℕ) (n k t : ℕ) → t < length (take k (drop n stream)) → get_or (take k (drop n stream)) t 0 ≡ get_or stream (n + t) 0
next_byte stream n k t h = get_or-take k (drop n stream) t 0 (omega (arith, length-take k (drop n stream))) ∙ get_or-drop n stream t 0

-- a push that answers 7 passed the entry checks
entered : (s : ParseState) (chunk : List ℕ) (w m e : ℕ) → e ≤ 2 → (push_of read_step e s chunk w m).number ≡ 7 → e ≡ 0
entered s chunk w m zero h z = refl
entered s chunk w m (suc e) h z =
    let q : suc e ≡ 7 =
    sym (ap (λ (a : Answer ParseState). a.number) (push_refused read_step (suc e) s chunk w m (λ f. let x : ⊥ = omega arith in x))) ∙ z in
    absurd (omega arith)

-- a push that answers 7 stopped before a byte that is forbidden in the state it left
record StopsAt (stream : List ℕ) (at : ℕ) (s' : ParseState) : Type 0 where
  inside : at < length stream
  stops : read_step s' (get_or stream at 0) ≡ none

module _ (skip : ℕ) {stream : List ℕ} {n : ℕ} {s : ParseState} {given ends : List ℕ} (p : ReadTrace skip stream n s given ends)
    (k : ℕ)
    (out marks out' marks' : List ℕ)
    (number taken wrote marked_n : ℕ)
    (s' : ParseState)
    (o : PushesOn read_step read_entry stream n s k out marks out' marks' number taken wrote marked_n s')
    (z : number ≡ 7)
  where
    stopped : StopsAt stream (n + taken) s'
    stopped =
        let h = take n stream in
        let chunk = take k (drop n stream) in
        let w = length out in
        let m = length marks in
        let e0 =
        entered s chunk w m (read_entry s (length chunk) w m) (entry_few (length chunk ∷ w ∷ m ∷ []) (bad_reader s)) (sym o.number_is ∙ z) in
        let a = push_of read_step 0 (reader_after skip h) chunk w m in
        let same : push_by read_step read_entry s chunk w m ≡ a =
        ap₂ (λ (x : ℕ) (y : ParseState). push_of read_step x y chunk w m) e0 (reading skip p).state in
        let t : taken ≡ a.taken = o.taken_is ∙ ap (λ (x : Answer ParseState). x.taken) same in
        let seven =
        (push_longest (read_follows skip) h chunk w m).number_7 (sym (ap (λ (x : Answer ParseState). x.number) same) ∙ sym o.number_is ∙ z) in
        let here : taken < length chunk = omega (arith, seven.0) in
        let left : s' ≡ a.after = o.state_is ∙ ap (λ (x : Answer ParseState). x.after) same in
        let byte : get_or stream (n + taken) 0 ≡ get_or chunk a.taken 0 =
        sym (next_byte stream n k taken here) ∙ ap (λ (x : ℕ). get_or chunk x 0) t in
        record {
          inside = omega (arith, length-take k (drop n stream), length-drop n stream);
          stops = ap₂ read_step left byte ∙ seven.1;
        }

    more : ReadTrace skip stream (n + taken) s' (given ++ take wrote out') (ends ++ shifted (length given) (take marked_n marks'))
    more = one_more p k out marks out' marks' number taken wrote marked_n s' o

    -- A 7'S INDEX IS THE LAST BYTE OF THE FIRST WINDOW THAT BREAKS THE PROHIBITION
    pub seventh : Seventh skip stream n taken
    seventh =
        let r = reading skip more in
        let b = get_or stream (n + taken) 0 in
        let f =
        forbidden_broken skip (take (n + taken) stream) b (drop (suc (n + taken)) stream) (unbroken_so_far skip more)
        (ap (λ (x : ParseState). read_step x b) (sym r.state) ∙ stopped.stops) in
        let at = f.place_is in
        record {
          place = f.place;
          place_is = omega (arith, length-take-le (n + taken) stream r.within);
          breaks = ap (λ (x : List ℕ). first_break (drop skip x)) (split_at stream (n + taken) 0 stopped.inside) ∙ f.breaks;
        }

    -- THAT BYTE AGAIN ANSWERS 7, with nothing taken and nothing written, whatever room is lent
    pub seventh_again : (k₂ : ℕ) (s₂ : ParseState) (out₂ out₂' : List ℕ) (r : Result Pushed Stopped)
        → ReadPush s' s₂ (take (suc k₂) (drop (n + taken) stream)) out₂ out₂' r → suc k₂ ≤ most → length out₂ ≤ most
        → ReadGave (answers 7 s') out₂ out₂' s₂ r
    seventh_again k₂ s₂ out₂ out₂' r o₂ kf rf =
        let rest = drop (n + taken) stream in
        let chunk : take (suc k₂) rest ≡ get_or stream (n + taken) 0 ∷ take k₂ (drop (suc (n + taken)) stream) =
        ap (take (suc k₂)) (drop-cons stream (n + taken) 0 stopped.inside) in
        let good : bad_reader s' ≡ false = ap bad_reader (reading skip more).state ∙ read_good skip (take (n + taken) stream) in
        let enters : read_entry s' (length (take (suc k₂) rest)) (length out₂) 0 ≡ 0 =
        entry_done (length (take (suc k₂) rest) ∷ length out₂ ∷ 0 ∷ []) (bad_reader s')
        (omega (arith, length-take (suc k₂) rest), (rf, (zero-le, tt))) good in
        subst (λ (a : Answer ParseState). ReadGave a out₂ out₂' s₂ r)
        (ap₂ (λ (x : ℕ) (l : List ℕ). push_of read_step x s' l (length out₂) 0) enters chunk
        ∙ stops_first read_step s' (get_or stream (n + taken) 0) (take k₂ (drop (suc (n + taken)) stream)) (length out₂) 0 stopped.stops)
        o₂

-- A LEGAL LIST MEETS NO 7
pub legal_no_7 : (skip : ℕ) {stream : List ℕ} {n : ℕ} {s : ParseState} {given ends : List ℕ} → Legal (drop skip stream)
    → ReadTrace skip stream n s given ends
    → (k : ℕ) (out marks out' marks' : List ℕ) (number taken wrote marked_n : ℕ) (s' : ParseState)
    → PushesOn read_step read_entry stream n s k out marks out' marks' number taken wrote marked_n s'
    → number ≡ 7 → ⊥
legal_no_7 skip {stream} l p k out marks out' marks' number taken wrote marked_n s' o z =
    none≢some (sym (legal_none (drop skip stream) l) ∙ (seventh skip p k out marks out' marks' number taken wrote marked_n s' o z).breaks)

-- and a list that was taken to its end is legal
pub taken_legal : (skip : ℕ) {stream : List ℕ} {s : ParseState} {given ends : List ℕ} → ReadTrace skip stream (length stream) s given ends
    → Legal (drop skip stream)
taken_legal skip {stream} p = subst (λ (l : List ℕ). Legal (drop skip l)) (take-length stream) (reading skip p).legal

-- WHAT IS WRITTEN IS `escape` OF WHAT WAS TAKEN, after each push
pub writing : {stream : List ℕ} {n : ℕ} {s : ByteWriter} {given ends : List ℕ} → WriteTrace stream n s given ends → Writing stream n s given
writing {stream} {n} {s} {given} {ends} p =
    let c = pushes_cut write_follows p in
    let e = sym (ap (λ (v : Seen ByteWriter). v.bytes) c.rule_gives) in
    let unmarked : ends ≡ [] = sym (ap (λ (v : Seen ByteWriter). v.ends) c.rule_gives) in
    record {
      within = c.within;
      bytes = e;
      state = sym (ap (λ (v : Seen ByteWriter). v.state) c.rule_gives) ∙ ap (λ (l : List ℕ). zeros (trail l)) (sym e);
      legal = subst Legal (sym e) (escape_legal (take n stream));
      back = ap unescape e ∙ unescape_escape (take n stream);
      at_once = λ s' out out' r o nf rf hold.
          at_once write_follows (subst (WriteTrace stream n s given) unmarked p) out [] out' [] _ _ _ _ s' o
          (entry_done (n ∷ length out ∷ 0 ∷ []) false (nf, (rf, (zero-le, tt))) refl) hold zero-le;
    }
