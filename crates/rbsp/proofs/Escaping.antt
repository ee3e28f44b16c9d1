-- Writing: the rule by places, one byte more, and the writer's step gives the rule.
use Prim.Native.Nat.{ℕ, zero, suc, ◌≤◌}
use native.Mathlib.Nat.{not-suc-le-zero}
use native.Mathlib.Omega.{arith}
use mathlib.Core.Path.{◌≡◌, refl, ap, sym, ◌∙◌}
use mathlib.Core.Bool.{Bool, true, false, cond}
use mathlib.Core.List.{List, [], ◌∷◌, ◌++◌, append_assoc}
use mathlib.Core.Option.{Option, none, some, some-injective}
use lib.ListN.{length, take, drop, length-drop}
use Rattle.desk.specs.Push.{Out, seen, seen_after, Follows}
use Rattle.desk.specs.Search.{up_to3, stands, further, first, trail}
use Rattle.desk.specs.Zeros.{zeros_after}
use Rattle.desk.proofs.Choice.{ap_cond, cond_ind}
use Rattle.desk.proofs.Lists.{snoc_ind, trail_past, trail_cons}
use Rattle.desk.proofs.Search.{trail_more, stays}
use Rattle.rbsp.specs.Rule.{Escapes, escape, escape_at, escape_by}
use Rattle.rbsp.specs.Step.{behind_three, goes_alone, zeros, stuffs, write_step, writes}
use Rattle.rbsp.specs.declared.writer.ByteWriter.{ByteWriter}

-- the rule byte by byte: 00 00 and a byte up to 03 give 00 00 03, and the third byte begins anew
abbrev table : List ℕ → List ℕ
table [] = []
table (x ∷ []) = x ∷ []
table (x ∷ y ∷ []) = x ∷ y ∷ []
table (x ∷ y ∷ z ∷ s) = cond (stands up_to3 (x ∷ y ∷ z ∷ s)) (0 ∷ 0 ∷ 3 ∷ table (z ∷ s)) (x ∷ table (y ∷ z ∷ s))

at_next : (x : ℕ) (l : List ℕ) (go : List ℕ → List ℕ) (r : Option ℕ) → escape_at (x ∷ l) go (further r) ≡ x ∷ escape_at l go r
at_next x l go none = refl
at_next x l go (some i) = refl

by_table : (n : ℕ) (s : List ℕ) → length s ≤ n → escape_by n s ≡ table s
by_table zero [] h = refl
by_table zero (x ∷ s) h = absurd (not-suc-le-zero h)
by_table (suc n) [] h = refl
by_table (suc n) (x ∷ []) h = refl
by_table (suc n) (x ∷ y ∷ []) h = refl
by_table (suc n) (x ∷ y ∷ z ∷ s) h =
    go (stands up_to3 (x ∷ y ∷ z ∷ s)) refl (by_table n (z ∷ s) (omega arith)) (by_table (suc n) (y ∷ z ∷ s) (omega arith))
  where
    go : (c : Bool) → stands up_to3 (x ∷ y ∷ z ∷ s) ≡ c → escape_by n (z ∷ s) ≡ table (z ∷ s) → escape_by (suc n) (y ∷ z ∷ s) ≡ table (y ∷ z ∷ s)
        → escape_by (suc n) (x ∷ y ∷ z ∷ s) ≡ table (x ∷ y ∷ z ∷ s)
    go true e i j = rw e (ap {B = List ℕ} (λ l. 0 ∷ 0 ∷ 3 ∷ l) i)
    go false e i j = rw e (at_next x (y ∷ z ∷ s) (escape_by n) (first up_to3 (y ∷ z ∷ s)) ∙ ap {B = List ℕ} (λ l. x ∷ l) j)

escape_table : (s : List ℕ) → escape s ≡ table s
unfolding escape
escape_table s = by_table (length s) s (omega arith)

escape_nil : escape [] ≡ []
unfolding escape
escape_nil = refl

-- THE RULE, AS ITS SENTENCES HAVE IT, with no bound on the searches
pub escape_none : (s : List ℕ) → first up_to3 s ≡ none → escape s ≡ s
unfolding escape
escape_none [] e = refl
escape_none (x ∷ s) e = ap (escape_at (x ∷ s) (escape_by (length s))) e

pub escape_some : (s : List ℕ) (i : ℕ) → first up_to3 s ≡ some i → escape s ≡ take i s ++ 0 ∷ 0 ∷ 3 ∷ escape (drop 2 (drop i s))
unfolding escape
escape_some [] i e = cc
escape_some (x ∷ s) i e =
    let q = stays up_to3 (x ∷ s) [] i e in
    let t = drop 2 (drop i (x ∷ s)) in
    ap (escape_at (x ∷ s) (escape_by (length s))) e
    ∙ ap (λ (l : List ℕ). take i (x ∷ s) ++ 0 ∷ 0 ∷ 3 ∷ l)
    (by_table (length s) t (omega (arith, q.less, length-drop 2 (drop i (x ∷ s)))) ∙ sym (by_table (length t) t (omega arith)))

-- `escape s` IS WHAT THE TWO SENTENCES SAY OF s, and nothing else is
pub escapes_one : {s t : List ℕ} → Escapes s t → t ≡ escape s
escapes_one {s} (Escapes.nowhere e) = sym (escape_none s e)
escapes_one {s} (Escapes.at_place {i = i} e d) = ap (λ (l : List ℕ). take i s ++ 0 ∷ 0 ∷ 3 ∷ l) (escapes_one d) ∙ sym (escape_some s i e)

pub escape_is : (s : List ℕ) → Escapes s (escape s)
unfolding escape
escape_is s = by_places (length s) s (omega arith)
  where
    by_places : (n : ℕ) (s : List ℕ) → length s ≤ n → Escapes s (escape_by n s)
    by_places zero [] h = Escapes.nowhere refl
    by_places zero (x ∷ s) h = absurd (not-suc-le-zero h)
    by_places (suc n) s h = go (first up_to3 s) refl (λ l k. by_places n l k)
      where
        go : (r : Option ℕ) → first up_to3 s ≡ r → ((l : List ℕ) → length l ≤ n → Escapes l (escape_by n l)) → Escapes s (escape_at s (escape_by n) r)
        go none e ih = Escapes.nowhere e
        go (some i) e ih =
            let q = stays up_to3 s [] i e in Escapes.at_place e (ih (drop 2 (drop i s)) (omega (arith, q.shorter, q.less, length-drop 2 (drop i s))))

-- what a byte releases, behind z zeros
abbrev pub let_out : ℕ → ℕ → List ℕ
let_out z b = cond (stuffs z b) (3 ∷ b ∷ []) (b ∷ [])

table_long : (y z : ℕ) (s : List ℕ) → 2 ≤ length (table (y ∷ z ∷ s))
table_long y z [] = omega arith
table_long y z (w ∷ s) =
    let i = table_long z w s in
    cond_ind (λ (l : List ℕ). 2 ≤ length l) (stands up_to3 (y ∷ z ∷ w ∷ s)) (0 ∷ 0 ∷ 3 ∷ table (w ∷ s)) (y ∷ table (z ∷ w ∷ s)) (omega arith)
    (omega arith)

table_more : (h : List ℕ) (b : ℕ) → table (h ++ b ∷ []) ≡ table h ++ let_out (trail (table h)) b
table_more [] b = refl
table_more (zero ∷ []) b = refl
table_more (suc x ∷ []) b = refl
table_more (zero ∷ zero ∷ []) b = sym (ap_cond (λ (l : List ℕ). 0 ∷ 0 ∷ l) (up_to3 b) (3 ∷ b ∷ []) (b ∷ []))
table_more (zero ∷ suc y ∷ []) b = refl
table_more (suc x ∷ zero ∷ []) b = refl
table_more (suc x ∷ suc y ∷ []) b = refl
table_more (x ∷ y ∷ z ∷ s) b = go (stands up_to3 (x ∷ y ∷ z ∷ s)) refl (table_more (z ∷ s) b) (table_more (y ∷ z ∷ s) b)
  where
    go : (c : Bool) → stands up_to3 (x ∷ y ∷ z ∷ s) ≡ c → table (z ∷ s ++ b ∷ []) ≡ table (z ∷ s) ++ let_out (trail (table (z ∷ s))) b
        → table (y ∷ z ∷ s ++ b ∷ []) ≡ table (y ∷ z ∷ s) ++ let_out (trail (table (y ∷ z ∷ s))) b
        → table (x ∷ y ∷ z ∷ s ++ b ∷ []) ≡ table (x ∷ y ∷ z ∷ s) ++ let_out (trail (table (x ∷ y ∷ z ∷ s))) b
    go true e i j =
        let t : trail (table (z ∷ s)) ≡ trail (0 ∷ 0 ∷ 3 ∷ table (z ∷ s)) = sym (trail_past 0 3 (table (z ∷ s)) refl) in
        rw e (ap {B = List ℕ} (λ l. 0 ∷ 0 ∷ 3 ∷ l) (i ∙ ap (λ (n : ℕ). table (z ∷ s) ++ let_out n b) t))
    go false e i j =
        let t : trail (table (y ∷ z ∷ s)) ≡ trail (x ∷ table (y ∷ z ∷ s)) = sym (trail_cons x (table (y ∷ z ∷ s)) (table_long y z s)) in
        rw e (ap {B = List ℕ} (λ l. x ∷ l) (j ∙ ap (λ (n : ℕ). table (y ∷ z ∷ s) ++ let_out n b) t))

-- ONE BYTE MORE
pub escape_more : (h : List ℕ) (b : ℕ) → escape (h ++ b ∷ []) ≡ escape h ++ let_out (trail (escape h)) b
escape_more h b = escape_table (h ++ b ∷ []) ∙ table_more h b ∙ ap (λ (l : List ℕ). l ++ let_out (trail l) b) (sym (escape_table h))

-- ---- the step gives the rule

out_of : (z b : ℕ) (c : Bool) (o : Out ByteWriter) → stuffs z b ≡ c
    → cond c (some (behind_three b)) (some (goes_alone z b)) ≡ some o
    → record { after = zeros (cond c (zeros_after 0 b) (zeros_after z b)); bytes = cond c (3 ∷ b ∷ []) (b ∷ []); mark = false } ≡ o
out_of z b true o e q = some-injective _ o q
out_of z b false o e q = some-injective _ o q

trail_out : (g : List ℕ) (b : ℕ) (c : Bool) → trail (g ++ cond c (3 ∷ b ∷ []) (b ∷ [])) ≡ cond c (zeros_after 0 b) (zeros_after (trail g) b)
trail_out g b true = ap trail (sym (append_assoc g (3 ∷ []) (b ∷ []))) ∙ trail_more (g ++ 3 ∷ []) b ∙ ap (λ (n : ℕ). zeros_after n b) (trail_more g 3)
trail_out g b false = trail_more g b

-- what does not end in 00 does not when it is escaped
pub escape_trail : (s : List ℕ) → trail s ≡ 0 → trail (escape s) ≡ 0
escape_trail =
    snoc_ind (λ (s : List ℕ). trail s ≡ 0 → trail (escape s) ≡ 0) (λ e. ap trail escape_nil)
    (λ h b ih e. ap trail (escape_more h b) ∙ trail_out (escape h) b (stuffs (trail (escape h)) b)
    ∙ none_left b (trail h) (sym (trail_more h b) ∙ e) (stuffs (trail (escape h)) b) (trail (escape h)))
  where
    none_left : (b z : ℕ) → zeros_after z b ≡ 0 → (c : Bool) (y : ℕ) → cond c (zeros_after 0 b) (zeros_after y b) ≡ 0
    none_left (suc b) z e true y = refl
    none_left (suc b) z e false y = refl
    none_left zero zero e c y = absurd (omega arith)
    none_left zero (suc z) e c y = absurd (omega arith)

writes_more : (h : List ℕ) (b : ℕ) (o : Out ByteWriter) → write_step (writes h).state b ≡ some o → writes (h ++ b ∷ []) ≡ seen_after (writes h) o
writes_more h b o q =
    let z = trail (escape h) in
    let e = escape_more h b in
    let s : trail (escape (h ++ b ∷ [])) ≡ cond (stuffs z b) (zeros_after 0 b) (zeros_after z b) = ap trail e ∙ trail_out (escape h) b (stuffs z b) in
    (λ i. seen (zeros (s i)) (e i) []) ∙ ap (seen_after (writes h)) (out_of z b (stuffs z b) o refl q)

-- THE WRITER'S STEP GIVES THE RULE
pub write_follows : Follows write_step (zeros 0) writes
unfolding escape
write_follows = record { new = refl; more = writes_more }
