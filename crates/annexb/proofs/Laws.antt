-- THE LAWS OF FRAMING THAT A CALLER CITES: cuts, room, what follows any history, one outcome.
use Prim.Native.Nat.{ℕ, ◌≤◌, zero-le}
use native.Mathlib.Omega.{arith}
use lib.Dec.{ltb}
use mathlib.Core.Path.{◌≡◌, refl, ap, ap₂, sym, subst}
use mathlib.Core.Bool.{Bool, true, false, ◌&&◌}
use mathlib.Core.List.{List, [], ◌∷◌, ◌++◌}
use mathlib.Core.Option.{none, some-injective}
use lib.ListN.{length, replicate, length-append, length-replicate}
use borrow.Author.Tests.{le-ltb, ltb-false}
use Rattle.std.specs.Prelude.{Result, Ok, Err}
use Rattle.desk.specs.Refusing.{answered}
use Rattle.desk.specs.Steps.{pushed_of, Gave}
use Rattle.desk.specs.declared.push.Pushed.{Pushed}
use Rattle.desk.specs.declared.refusal.Refusal.{Refusal}
use Rattle.desk.specs.Search.{is0, is1, up_to1}
use Rattle.desk.specs.Zeros.{two}
use Rattle.desk.specs.Push.{Out, Answer, marked, push_of, Pushes, shifted, Seen, seen, Cut, accepts, Longest}
use Rattle.desk.proofs.Choice.{cond_ind}
use Rattle.desk.proofs.Cutting.{pushes_cut}
use Rattle.desk.proofs.Entering.{entry_done, entry_passed}
use Rattle.desk.proofs.Lists.{trail_few}
use Rattle.desk.proofs.Once.{at_once}
use Rattle.desk.proofs.Restarting.{restart}
use Rattle.desk.proofs.Running.{push_kept}
use Rattle.desk.proofs.Taking.{push_entered, never_7, push_longest, takes_first}
use Rattle.desk.proofs.Unique.{one_gave}
use Rattle.desk.proofs.Ways.{way}
use Rattle.annexb.specs.declared.AnnexBReader.{AnnexBReader}
use Rattle.annexb.specs.Rule.{given, ends, frame, frame_from}
use Rattle.annexb.specs.Seen.{new, rule, state_of}
use Rattle.annexb.specs.Step.{in_step, out_step, step, stepping}
use Rattle.annexb.specs.Answer.{entering, push_answer, FramePush}
use Rattle.annexb.specs.Promise.{FramesAtOnce, Framing, FrameWay}
use Rattle.annexb.proofs.Following.{follows}

-- ---- cuts

-- AFTER EACH PUSH, HOWEVER THE STREAM IS CUT, from any state that is not bad: what was handed out is what the rule gives for the bytes taken
pub pushes_rule : {s₀ : AnnexBReader} → s₀.zeros ≤ 2 → {stream : List ℕ} {n : ℕ} {s : AnnexBReader} {g e : List ℕ}
    → Pushes stepping entering s₀ stream n s g e → Cut (rule s₀) stream n s g e
pushes_rule {s₀} k p = pushes_cut (follows s₀ k) p

-- ONE PUSH, where the limit and the rooms let it, does what any pushes did, from any state that is not bad
pub frames_at_once : {s₀ : AnnexBReader} → s₀.zeros ≤ 2 → {stream : List ℕ} {n : ℕ} {s : AnnexBReader} {g e : List ℕ}
    → Pushes stepping entering s₀ stream n s g e → FramesAtOnce s₀ stream n s g e
frames_at_once {s₀} k {stream} {n} p room marks s' room' marks' r o nf rf mf =
    at_once (follows s₀ k) p room marks room' marks' (answered r) (pushed_of r).taken (pushed_of r).written (pushed_of r).marked s' o
    (entry_done (n ∷ length room ∷ length marks ∷ []) (ltb 2 s₀.zeros) (nf, (rf, (mf, tt))) (le-ltb 2 s₀.zeros k))

-- FRAMING, from a new reader
pub framing : {stream : List ℕ} {n : ℕ} {s : AnnexBReader} {g e : List ℕ} → Pushes stepping entering new stream n s g e → Framing stream n s g e
framing p =
    let c = pushes_rule zero-le p in
    let r = sym c.rule_gives in
    record {
      within = c.within;
      bytes_are = ap (λ (v : Seen AnnexBReader). v.bytes) r;
      ends_are = ap (λ (v : Seen AnnexBReader). v.ends) r;
      state_is = ap (λ (v : Seen AnnexBReader). v.state) r;
      at_once = frames_at_once zero-le p;
    }

-- ---- any history

pub no_byte_forbidden : (s : AnnexBReader) (bs : List ℕ) → accepts stepping s bs ≡ true
no_byte_forbidden s [] = refl
no_byte_forbidden s (b ∷ bs) = no_byte_forbidden (step s b).after bs

-- FROM ANY HISTORY h ON, the rule of the state reached gives what the rule gives for h ++ t beyond h
pub onward : (h t : List ℕ)
    → rule new (h ++ t)
    ≡ seen (rule (state_of h) t).state (given h ++ (rule (state_of h) t).bytes) (ends h ++ shifted (length (given h)) (rule (state_of h) t).ends)
onward h t = restart (follows new zero-le) h (follows (state_of h) (trail_few (frame h).rest)) t (no_byte_forbidden (state_of h) t)

-- ---- room

module _ (s : AnnexBReader) (chunk : List ℕ) (w m : ℕ) (e : entering s (length chunk) w m ≡ 0) where
  -- a call that passes its entry checks holds two zeros at most
  few : s.zeros ≤ 2
  few = ltb-false 2 s.zeros (entry_passed (length chunk ∷ w ∷ m ∷ []) (ltb 2 s.zeros) e).1

  from_here : push_of stepping 0 (rule s []).state chunk w m ≡ push_answer s chunk w m
  from_here =
      ap₂ (λ (n : ℕ) (x : AnnexBReader). push_of stepping n x chunk w m) (sym e) (ap (λ (v : Seen AnnexBReader). v.state) (follows s few).new)

  -- A PUSH THAT IS NOT REFUSED TAKES THE LONGEST FRONT ALL OF WHOSE RELEASES FIT
  pub push_takes_longest : Longest stepping (rule s) [] chunk w m (push_answer s chunk w m)
  push_takes_longest = subst (Longest stepping (rule s) [] chunk w m) from_here (push_longest (follows s few) [] chunk w m)

step_three : (s : AnnexBReader) (b : ℕ) → s.zeros ≤ 2 → length (step s b).bytes ≤ 3
step_three s b h =
    cond_ind (λ (o : Out AnnexBReader). length o.bytes ≤ 3) s.in_unit (in_step s.zeros b) (out_step s.zeros b)
    (cond_ind (λ (o : Out AnnexBReader). length o.bytes ≤ 3) (two s.zeros && up_to1 b) _ _ zero-le
    (cond_ind (λ (l : List ℕ). length l ≤ 3) (is0 b) [] (replicate s.zeros 0 ++ b ∷ []) zero-le
    (simp (length-append, length-replicate) (omega arith))))
    (cond_ind (λ (o : Out AnnexBReader). length o.bytes ≤ 3) (two s.zeros && is1 b) _ _ zero-le zero-le)

mark_one : (c : Bool) (l : List ℕ) → length (marked c l) ≤ 1
mark_one true l = omega arith
mark_one false l = omega arith

-- LENT THREE BYTES AND ONE MARK IT TAKES AT LEAST ONE BYTE
pub push_takes_one : (s : AnnexBReader) (b : ℕ) (bs : List ℕ) (w m : ℕ) → entering s (length (b ∷ bs)) w m ≡ 0 → 3 ≤ w → 1 ≤ m
    → 1 ≤ (push_answer s (b ∷ bs) w m).taken
push_takes_one s b bs w m e h k =
    let z = few s (b ∷ bs) w m e in
    subst (λ (n : ℕ). 1 ≤ (push_of stepping n s (b ∷ bs) w m).taken) (sym e)
    (takes_first stepping s b bs w m (step s b) refl (omega (arith, step_three s b z)) (omega (arith, mark_one (step s b).mark [])))

-- wherever it is not refused
pub frame_one : (s : AnnexBReader) (b : ℕ) (bs room marks : List ℕ) (s' : AnnexBReader) (room' marks' : List ℕ) (p : Pushed)
    → FramePush s (b ∷ bs) room marks s' room' marks' (Ok p)
    → 3 ≤ length room → 1 ≤ length marks → 1 ≤ p.taken
frame_one s b bs room marks s' room' marks' p o h k =
    let e =
    push_entered stepping (entering s (length (b ∷ bs)) (length room) (length marks)) s (b ∷ bs) (length room) (length marks) (sym o.number_is) in
    let n = push_takes_one s b bs (length room) (length marks) e h k in
    omega (arith, o.taken_is)

-- THERE IS A WAY: three bytes and one mark, lent again and again, take every stream
pub frame_way : (s₀ : AnnexBReader) → s₀.zeros ≤ 2 → (stream : List ℕ) → FrameWay s₀ stream
frame_way s₀ k stream =
    way (follows s₀ k) entering stream (0 ∷ 0 ∷ 0 ∷ []) (0 ∷ [])
    (λ h. entry_done (1 ∷ 3 ∷ 1 ∷ []) (ltb 2 (rule s₀ h).state.zeros) (omega arith, (omega arith, (omega arith, tt)))
    (le-ltb 2 (rule s₀ h).state.zeros (held h)))
    (λ h b o e. subst (λ (x : Out AnnexBReader). (length x.bytes ≤ 3) × (length (marked x.mark []) ≤ 1))
    (some-injective (step (rule s₀ h).state b) o e) (step_three (rule s₀ h).state b (held h), mark_one (step (rule s₀ h).state b).mark []))
    (no_byte_forbidden s₀ stream)
  where
    held : (h : List ℕ) → (rule s₀ h).state.zeros ≤ 2
    held h = trail_few (frame_from s₀.in_unit (replicate s₀.zeros 0 ++ h)).rest

-- ---- numbers

pub none_forbidden : (s : AnnexBReader) (b : ℕ) → stepping s b ≡ none → ⊥
none_forbidden s b e = cc

-- a push answers 0, 1 or 2, by its entry checks alone
pub push_number : (s : AnnexBReader) (chunk : List ℕ) (w m : ℕ) → (push_answer s chunk w m).number ≡ entering s (length chunk) w m
push_number s chunk w m = never_7 stepping none_forbidden (entering s (length chunk) w m) s chunk w m

-- A PUSH THAT IS REFUSED leaves the state and both rooms as they were
pub refused_kept : (s : AnnexBReader) (chunk room marks : List ℕ) (s' : AnnexBReader) (room' marks' : List ℕ) (why : Refusal)
    → FramePush s chunk room marks s' room' marks' (Err why) → (s' ≡ s) × (room' ≡ room) × (marks' ≡ marks)
refused_kept s chunk room marks s' room' marks' why o = push_kept stepping none_forbidden _ s chunk why o

-- ---- ONE OUTCOME: what the contract of a push or of a reset says leaves one
pub one_result : {a : Answer AnnexBReader} {room marks : List ℕ} {s₁ s₂ : AnnexBReader} {room₁ room₂ marks₁ marks₂ : List ℕ}
    {r₁ r₂ : Result Pushed Refusal}
    → Gave a room marks s₁ room₁ marks₁ r₁ → Gave a room marks s₂ room₂ marks₂ r₂ → (r₁ ≡ r₂) × (s₁ ≡ s₂) × (room₁ ≡ room₂) × (marks₁ ≡ marks₂)
one_result = one_gave
