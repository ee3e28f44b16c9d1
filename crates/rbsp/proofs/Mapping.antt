-- What `map_err` and `ok_or` leave of an answer.
use mathlib.Core.Path.{◌≡◌, refl, ap, ◌∙◌}
use Rattle.std.specs.Prelude.{Option, Some, None, Result, Ok, Err}
use Rattle.std.specs.Option.{ok_or}
use Rattle.std.specs.Result.{MatchResult, IsErrAnd, result_map_both}
use Rattle.std.proofs.lemmas.Result.{err_from_is_err_and}

-- an answer with its refusal changed by f
abbrev pub err_mapped : {A E D : Type 0} → (E → D) → Result A E → Result A D
err_mapped f r = result_map_both (λ x. x) f r

pub mapped : {A E D : Type 0} (f : E → D) (r : Result A E) (m : Result A D) (P : E → D → Type 0)
    → MatchResult r (λ x. m ≡ Ok x) (λ e. IsErrAnd m (P e)) → ((e : E) (d : D) → P e d → d ≡ f e) → m ≡ err_mapped f r
mapped f (Ok x) m P c h = c
mapped f (Err e) m P c h = let q = err_from_is_err_and m c in q.1 ∙ ap (λ d. Err d) (h e q.0 q.2)

pub ok_or_none : {A E : Type 0} (o : Option A) (e x : E) → ok_or o e ≡ Err x → (o ≡ None) × (e ≡ x)
ok_or_none None e x q = (refl, cc)
ok_or_none (Some y) e x q = cc

pub ok_or_some : {A E : Type 0} (o : Option A) (e : E) (y : A) → ok_or o e ≡ Ok y → o ≡ Some y
ok_or_some None e y q = cc
ok_or_some (Some z) e y q = cc

pub mapped_ok : {A E D : Type 0} (f : E → D) (r : Result A E) (x : A) → Ok x ≡ err_mapped f r → r ≡ Ok x
mapped_ok f (Ok y) x q = cc
mapped_ok f (Err e) x q = cc

pub mapped_err : {A E D : Type 0} (f : E → D) (r : Result A E) (d : D) → Err d ≡ err_mapped f r → (e : E) × (r ≡ Err e) × (d ≡ f e)
mapped_err f (Ok x) d q = cc
mapped_err f (Err e) d q = (e, refl, cc)
