-- THERE IS A WAY: resets that are done, and calls of one reader that take any streams whole.
use Prim.Native.Nat.{ℕ, ◌≤◌, zero-le}
use native.Mathlib.Omega.{arith}
use mathlib.Core.Path.{◌≡◌, refl, ap, ap₂, sym, subst}
use mathlib.Core.List.{List, [], ◌∷◌, ◌++◌}
use lib.Dec.{ltb}
use lib.ListN.{length, take, drop}
use lib.Seq.{take-length}
use borrow.Author.Tests.{le-ltb}
use Rattle.desk.specs.Push.{Pushes, shifted, Seen}
use Rattle.desk.specs.Room.{with_front}
use Rattle.desk.specs.declared.push.Pushed.{Pushed}
use Rattle.desk.proofs.Cutting.{taken_front, pushed_few}
use Rattle.desk.proofs.Entering.{entry_done, entry_few}
use Rattle.desk.proofs.Lists.{trail_few}
use Rattle.desk.proofs.Running.{gave_done, as_result}
use Rattle.desk.proofs.Ways.{an_outcome}
use Rattle.annexb.specs.declared.AnnexBReader.{AnnexBReader}
use Rattle.annexb.specs.Rule.{frame}
use Rattle.annexb.specs.Seen.{new}
use Rattle.annexb.specs.Step.{stepping}
use Rattle.annexb.specs.Answer.{entering, reset_answer}
use Rattle.annexb.specs.Promise.{ResetWay}
use Rattle.annexb.specs.Calls.{Span, Calls, CallsWay}
use Rattle.annexb.proofs.Calling.{calls_rule}
use Rattle.annexb.proofs.Completing.{reset_done}
use Rattle.annexb.proofs.Following.{follows}
use Rattle.annexb.proofs.Laws.{none_forbidden, pushes_rule, framing, frame_way}

-- ROOM FOR TWO ZEROS AND A MARK is enough for every reset
pub reset_way : (s : AnnexBReader) → s.zeros ≤ 2 → ResetWay s
reset_way s k =
    let a = reset_answer s 2 1 in
    let done : a.number ≡ 0 =
    reset_done s 2 1 (entry_done (0 ∷ 2 ∷ 1 ∷ []) (ltb 2 s.zeros) (zero-le, (omega arith, (omega arith, tt))) (le-ltb 2 s.zeros k)) k
    (omega arith) in
    record {
      after = a.after;
      room' = with_front (0 ∷ 0 ∷ []) a.bytes;
      marks' = with_front (0 ∷ []) a.marks;
      closed = record { taken = a.taken; written = length a.bytes; marked = length a.marks };
      reset = gave_done (an_outcome a (0 ∷ 0 ∷ []) (0 ∷ [])) done;
    }

-- a state that pushes left is not bad
pub pushes_good : {stream : List ℕ} {n : ℕ} {s : AnnexBReader} {g e : List ℕ} → Pushes stepping entering new stream n s g e → s.zeros ≤ 2
pushes_good {stream} {n} p = subst (λ (x : AnnexBReader). x.zeros ≤ 2) (sym (framing p).state_is) (trail_few (frame (take n stream)).rest)

-- pushes of a stream are calls
as_calls : {spans : List Span} → Calls spans [] new [] [] → {stream : List ℕ} {n : ℕ} {s : AnnexBReader} {g e : List ℕ}
    → Pushes stepping entering new stream n s g e → Calls spans (take n stream) s g e
as_calls c Pushes.none_yet = c
as_calls {spans} c {stream} (Pushes.one_more {n} {s} {given} {ends} p k out marks out' marks' number taken wrote marked_n s' o) =
    let chunk = take k (drop n stream) in
    let st = ap (λ (v : Seen AnnexBReader). v.state) (pushes_rule zero-le p).rule_gives in
    let entry = entering s (length chunk) (length out) (length marks) in
    let few : taken ≤ length chunk =
    omega (arith, o.taken_is, pushed_few (follows new zero-le) (take n stream) chunk s entry (length out) (length marks) st) in
    let r = as_result none_forbidden s chunk (entry_few (length chunk ∷ length out ∷ length marks ∷ []) (ltb 2 s.zeros)) o in
    let call = Calls.pushed (as_calls c p) chunk out marks s' out' marks' r.0 r.1 in
    subst (λ (h : List ℕ). Calls spans h s' (given ++ take wrote out') (ends ++ shifted (length given) (take marked_n marks')))
    (taken_front n k taken stream few)
    (subst (λ (q : Pushed). Calls spans (take n stream ++ take q.taken chunk) s' (given ++ take q.written out')
    (ends ++ shifted (length given) (take q.marked marks'))) r.2 call)

-- a reader that a reset left is new
fresh : {spans : List Span} {s : AnnexBReader} → Calls spans [] s [] [] → Calls spans [] new [] []
fresh {spans} c = subst (λ (x : AnnexBReader). Calls spans [] x [] []) (sym (ap (λ (v : Seen AnnexBReader). v.state) (calls_rule c).open_span)) c

-- ANY STREAMS, ONE AFTER THE OTHER, each closed by a reset
pub calls_way : (streams : List (List ℕ)) → CallsWay streams
calls_way [] = record { spans = []; calls = Calls.none_yet; taken_are = refl }
calls_way (t ∷ ts) =
    let before = calls_way ts in
    let w = frame_way new zero-le t in
    let all = as_calls before.calls w.pushes in
    let z = reset_way w.state (pushes_good w.pushes) in
    let calls = Calls.reset_done all (0 ∷ 0 ∷ []) (0 ∷ []) z.after z.room' z.marks' z.closed z.reset in
    record {
      spans = _;
      calls = fresh calls;
      taken_are = ap₂ {C = List (List ℕ)} ◌∷◌ (take-length t) before.taken_are;
    }
