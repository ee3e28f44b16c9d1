-- Any calls of one reader: span by span the rule's units, and what follows a reset is as from a new state.
use Prim.Native.Nat.{ℕ, ◌≤◌, zero-le}
use native.Mathlib.Nat.{zero-add}
use native.Mathlib.Omega.{arith}
use mathlib.Core.Path.{◌≡◌, refl, ap, ap₂, sym, ◌∙◌, subst, subst⁻¹}
use mathlib.Core.List.{List, [], ◌∷◌, ◌++◌}
use lib.ListN.{length, take, replicate}
use lib.Seq.{take-length}
use Rattle.std.specs.Prelude.{Result, Ok, Err}
use Rattle.desk.specs.Push.{Pushes, shifted, Seen, seen}
use Rattle.desk.specs.Refusing.{answered}
use Rattle.desk.specs.Steps.{pushed_of}
use Rattle.desk.specs.declared.push.Pushed.{Pushed}
use Rattle.desk.specs.declared.refusal.Refusal.{Refusal}
use Rattle.desk.proofs.Cutting.{gave_bytes, gave_marks, shifted_none}
use Rattle.desk.proofs.Lists.{trail_few}
use Rattle.desk.proofs.Refusing.{number_some}
use Rattle.desk.proofs.Running.{gave_kept}
use Rattle.annexb.specs.declared.AnnexBReader.{AnnexBReader}
use Rattle.annexb.specs.Rule.{frame_from, frame, given, ends}
use Rattle.annexb.specs.Seen.{new, rule, state_of}
use Rattle.annexb.specs.Step.{stepping}
use Rattle.annexb.specs.Answer.{entering, reset_answer, FramePush, FrameReset}
use Rattle.annexb.specs.Calls.{Span, span, Calls, Completes, Whole, ByTheRule}
use Rattle.annexb.proofs.Completing.{reset_kept, reset_completes}
use Rattle.annexb.proofs.Laws.{pushes_rule, onward}

-- one push, by the rule of the state it starts from
pub push_rule : (s : AnnexBReader) (chunk room marks : List ℕ) (s' : AnnexBReader) (room' marks' : List ℕ) (r : Result Pushed Refusal)
    → s.zeros ≤ 2 → FramePush s chunk room marks s' room' marks' r
    → rule s (take (pushed_of r).taken chunk) ≡ seen s' (take (pushed_of r).written room') (take (pushed_of r).marked marks')
push_rule s chunk room marks s' room' marks' r k o =
    let p = pushed_of r in
    let lent = subst⁻¹ (λ (c : List ℕ). FramePush s c room marks s' room' marks' r) (take-length chunk) o in
    let c =
    pushes_rule k
    (Pushes.one_more Pushes.none_yet (length chunk) room marks room' marks' (answered r) p.taken p.written p.marked s' lent) in
    ap (λ (n : ℕ). rule s (take n chunk)) (sym (zero-add p.taken)) ∙ c.rule_gives
    ∙ ap (seen s' (take p.written room')) (shifted_none (take p.marked marks'))

-- a push leaves no bad state
pub push_few : (s : AnnexBReader) (chunk room marks : List ℕ) (s' : AnnexBReader) (room' marks' : List ℕ) (r : Result Pushed Refusal)
    → s.zeros ≤ 2 → FramePush s chunk room marks s' room' marks' r → s'.zeros ≤ 2
push_few s chunk room marks s' room' marks' r k o =
    subst (λ (x : AnnexBReader). x.zeros ≤ 2) (ap (λ (v : Seen AnnexBReader). v.state) (push_rule s chunk room marks s' room' marks' r k o))
    (trail_few (frame_from s.in_unit (replicate s.zeros 0 ++ take (pushed_of r).taken chunk)).rest)

-- A RESET THAT IS REFUSED leaves the state and both rooms as they were
pub reset_refused_kept : (s : AnnexBReader) (room marks : List ℕ) (s' : AnnexBReader) (room' marks' : List ℕ) (why : Refusal)
    → FrameReset s room marks s' room' marks' (Err why) → (s' ≡ s) × (room' ≡ room) × (marks' ≡ marks)
reset_refused_kept s room marks s' room' marks' why o =
    let some = number_some why in
    gave_kept _ o (reset_kept s (length room) (length marks) (λ k. let z = o.number_is ∙ k in omega arith))

module _ {spans : List Span} {h : List ℕ} {s : AnnexBReader} {g e : List ℕ} (b : ByTheRule spans h s g e) where
  state_is : state_of h ≡ s
  state_is = ap (λ (v : Seen AnnexBReader). v.state) b.open_span

  given_is : given h ≡ g
  given_is = ap (λ (v : Seen AnnexBReader). v.bytes) b.open_span

  ends_are : ends h ≡ e
  ends_are = ap (λ (v : Seen AnnexBReader). v.ends) b.open_span

  after_push : (chunk room marks : List ℕ) (s' : AnnexBReader) (room' marks' : List ℕ) (r : Result Pushed Refusal)
      → FramePush s chunk room marks s' room' marks' r
      → ByTheRule spans (h ++ take (pushed_of r).taken chunk) s' (g ++ take (pushed_of r).written room')
      (e ++ shifted (length g) (take (pushed_of r).marked marks'))
  after_push chunk room marks s' room' marks' r o =
      let p = pushed_of r in
      let t = take p.taken chunk in
      let is =
      push_rule (state_of h) chunk room marks s' room' marks' r (trail_few (frame h).rest)
      (subst⁻¹ (λ (x : AnnexBReader). FramePush x chunk room marks s' room' marks' r) state_is o) in
      record {
        closed_spans = b.closed_spans;
        open_span =
            onward h t
            ∙ ap (λ (v : Seen AnnexBReader). seen v.state (given h ++ v.bytes) (ends h ++ shifted (length (given h)) v.ends)) is
            ∙ ap₂ (λ (x y : List ℕ). seen s' (x ++ take p.written room')
            (y ++ shifted (length x) (take p.marked marks'))) given_is ends_are;
      }

  module _ (room marks : List ℕ) (s' : AnnexBReader) (room' marks' : List ℕ) where
    after_reset : (p : Pushed) → FrameReset s room marks s' room' marks' (Ok p)
        → ByTheRule (span h (g ++ take p.written room') (e ++ shifted (length g) (take p.marked marks')) ∷ spans) [] s' [] []
    after_reset p o =
        let c =
        subst
        (λ (x : AnnexBReader). (reset_answer x (length room) (length marks)).number ≡ 0
        → Completes (frame h) (reset_answer x (length room) (length marks)))
        state_is
        (reset_completes (frame h) (length room) (length marks)) (sym o.number_is) in
        record {
          closed_spans = (
            record {
              bytes_are = ap₂ ◌++◌ (sym given_is) (gave_bytes o) ∙ c.bytes_all;
              ends_are = ap₂ ◌++◌ (sym ends_are) (ap₂ shifted (ap length (sym given_is)) (gave_marks o)) ∙ c.ends_all;
            },
            b.closed_spans,
          );
          open_span = λ i. seen (sym (o.state_is ∙ c.state_new) i) [] [];
        }

    after_refusal : (why : Refusal) → FrameReset s room marks s' room' marks' (Err why) → ByTheRule spans h s' g e
    after_refusal why o =
        let kept = reset_refused_kept s room marks s' room' marks' why o in
        record { closed_spans = b.closed_spans; open_span = b.open_span ∙ (λ i. seen (sym kept.0 i) g e) }

-- WHATEVER IS CALLED, IN WHATEVER ORDER
pub calls_rule : {spans : List Span} {h : List ℕ} {s : AnnexBReader} {g e : List ℕ} → Calls spans h s g e → ByTheRule spans h s g e
calls_rule Calls.none_yet = record { closed_spans = tt; open_span = refl }
calls_rule (Calls.pushed c chunk room marks s' room' marks' r o) = after_push (calls_rule c) chunk room marks s' room' marks' r o
calls_rule (Calls.reset_done c room marks s' room' marks' p o) = after_reset (calls_rule c) room marks s' room' marks' p o
calls_rule (Calls.reset_refused c room marks s' room' marks' why o) = after_refusal (calls_rule c) room marks s' room' marks' why o

-- PUSHES FROM A NEW READER, CLOSED BY ONE RESET
pub pushes_reset : {stream : List ℕ} {n : ℕ} {s : AnnexBReader} {g e : List ℕ} → Pushes stepping entering new stream n s g e
    → (room marks : List ℕ) (s' : AnnexBReader) (room' marks' : List ℕ) (p : Pushed) → FrameReset s room marks s' room' marks' (Ok p)
    → Whole (span (take n stream) (g ++ take p.written room') (e ++ shifted (length g) (take p.marked marks')))
pushes_reset {stream} {n} {s} {g} {e} pushes room marks s' room' marks' p o =
    let before : ByTheRule [] (take n stream) s g e = record { closed_spans = tt; open_span = (pushes_rule zero-le pushes).rule_gives } in
    (after_reset before room marks s' room' marks' p o).closed_spans.0
