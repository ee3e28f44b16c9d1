-- What the piece writers leave in a room.
use Prim.Native.Nat.{ℕ, zero, suc, ◌-◌, ◌≤◌, ◌<◌}
use native.Mathlib.Omega.{arith}
use native.Mathlib.Nat.{not-suc-le-zero}
use mathlib.Core.Path.{◌≡◌, ap, sym, ◌∙◌}
use mathlib.Core.List.{List, [], ◌∷◌, ◌++◌}
use lib.ListN.{length, take, drop, set, get_or, replicate, length-append, length-replicate}
use lib.Seq.{drop-cons, set_at, append_snoc, length-take-le}
use Rattle.desk.specs.Room.{with_front}
use Rattle.desk.specs.Steps.{released}

-- a front that was filled
pub filled : {A : Type 0} (n : ℕ) (v : A) (room front : List A) → n ≤ length room → front ≡ replicate (length (take n room)) v
    → front ++ drop n room ≡ with_front room (replicate n v)
unfolding with_front
filled n v room front h e =
    let long : length (take n room) ≡ n = length-take-le n room h in
    rw (e, long) (ap (λ (k : ℕ). replicate n v ++ drop k room) (sym (length-replicate n v)))

-- a byte behind what goes before it
pub last_put : (lead count b : ℕ) (room before : List ℕ) → 0 < count → count ≤ length room
    → before ≡ replicate (length (take (count - 1) room)) lead
    → set (before ++ drop (count - 1) room) (count - 1) b ≡ with_front room (released lead count b)
unfolding with_front
last_put lead zero b room before n h e = absurd (not-suc-le-zero n)
last_put lead (suc k) b room before n h e =
    let q : suc k - 1 ≡ k = omega arith in
    let front : length (take k room) ≡ k = length-take-le k room (omega arith) in
    let len : length (replicate k lead ++ b ∷ []) ≡ suc k = simp (length-append, length-replicate) (omega arith) in
    rw (e, q, front)
    (ap (λ (t : List ℕ). set (replicate k lead ++ t) k b) (drop-cons room k 0 h)
    ∙ set_at (replicate k lead) (get_or room k 0) (drop (suc k) room) b k (length-replicate k lead)
    ∙ sym (append_snoc (replicate k lead) b (drop (suc k) room))
    ∙ ap (λ (j : ℕ). (replicate k lead ++ b ∷ []) ++ drop j room) (sym len))
