-- ONE PUSH DOES WHAT PUSHES DID, wherever its entry checks and its rooms let it. For every reader and writer whose step gives its rule.
use Prim.Native.Nat.{ℕ, ◌≤◌}
use native.Mathlib.Omega.{arith}
use mathlib.Core.Path.{◌≡◌, ap, ap₂, sym, ◌∙◌, subst}
use mathlib.Core.Bool.{true}
use mathlib.Core.List.{List, []}
use lib.ListN.{length, take}
use lib.Seq.{length-take-le}
use Rattle.desk.specs.Push.{Next, Answer, Entry, push_of, push_by, Gives, Pushes, Seen, seen, Follows, accepts, came_to}
use Rattle.desk.proofs.Accepting.{pushes_accepted}
use Rattle.desk.proofs.Cutting.{pushes_cut}
use Rattle.desk.proofs.Taking.{whole_push}

module _ {S : Type 0} {next : Next S} {s₀ : S} {rule : List ℕ → Seen S} (f : Follows next s₀ rule) where
  module _ {entry : Entry S} {stream : List ℕ} {n : ℕ} {s : S} {given ends : List ℕ} (p : Pushes next entry s₀ stream n s given ends) where
    -- any pushes have taken n bytes; one push of these n that passes its entry checks, into rooms that hold what they gave, answers what they came to
    once_is : (w m : ℕ) → entry s₀ n w m ≡ 0 → length given ≤ w → length ends ≤ m → push_by next entry s₀ (take n stream) w m ≡ came_to n s given ends
    once_is w m e fb fe =
        let c = pushes_cut f p in
        let r : rule (take n stream) ≡ seen s given ends = c.rule_gives in
        let long : length (take n stream) ≡ n = length-take-le n stream c.within in
        let start : (rule []).state ≡ s₀ = ap (λ (v : Seen S). v.state) f.new in
        let acc : accepts next s₀ (take n stream) ≡ true = ap (λ (x : S). accepts next x (take n stream)) (sym start) ∙ pushes_accepted f p in
        let fb' : length (rule (take n stream)).bytes ≤ w = omega (arith, ap (λ (v : Seen S). length v.bytes) r) in
        let fe' : length (rule (take n stream)).ends ≤ m = omega (arith, ap (λ (v : Seen S). length v.ends) r) in
        let enters : entry s₀ (length (take n stream)) w m ≡ 0 = ap (λ (k : ℕ). entry s₀ k w m) long ∙ e in
        ap (λ (k : ℕ). push_of next k s₀ (take n stream) w m) enters
        ∙ whole_push f (take n stream) w m acc fb' fe'
        ∙ ap₂ (λ (k : ℕ) (v : Seen S). came_to k v.state v.bytes v.ends) long r

    -- ANY OUTCOME OF ONE PUSH: it takes the n bytes, answers 0, and leaves the same state, bytes and ends
    pub at_once : (out marks out' marks' : List ℕ) (number taken wrote marked_n : ℕ) (s' : S)
        → Gives (push_by next entry s₀ (take n stream) (length out) (length marks)) out marks out' marks' number taken wrote marked_n s'
        → entry s₀ n (length out) (length marks) ≡ 0 → length given ≤ length out → length ends ≤ length marks
        → Gives (came_to n s given ends) out marks out' marks' number taken wrote marked_n s'
    at_once out marks out' marks' number taken wrote marked_n s' o e fb fe =
        subst (λ (a : Answer S). Gives a out marks out' marks' number taken wrote marked_n s') (once_is (length out) (length marks) e fb fe) o
