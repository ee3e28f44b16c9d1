-- What is told over a whole trace: the rule's units, by their lengths, and their number.
use Rattle.std.proofs.Common.{◌≡◌, ℕ, ◌+◌, ◌%◌, false, cond, List, [], ◌∷◌, ◌++◌, map, length, take}
use Rattle.std.proofs.Common.{Ok, sym, refl, ap, ◌∙◌, ap₂, add-zero, zero-add, arith, length-append}
use mathlib.Core.Path.{subst⁻¹}
use mathlib.Core.List.{map-append, append_cancel_left, head-eq_of_cons-eq, tail-eq_of_cons-eq}
use lib.ListN.{length-map}
use Rattle.desk.specs.Search.{unheld}
use Rattle.desk.specs.Room.{with_front}
use Rattle.desk.specs.Push.{shifted, Seen}
use Rattle.desk.specs.Steps.{pushed_of}
use Rattle.desk.specs.declared.push.Pushed.{Pushed}
use Rattle.desk.proofs.Room.{front}
use Rattle.annexb.specs.declared.AnnexBReader.{AnnexBReader}
use Rattle.annexb.specs.Rule.{Frame, frame, frame_from, joined, ends_from, units_at_reset}
use Rattle.annexb.specs.Answer.{FrameReset}
use Rattle.annexb.specs.Calls.{Calls}
use Rattle.annexb.proofs.Framing.{split}
use Rattle.annexb.proofs.Following.{joined_append, ends_append}
use Rattle.desk.proofs.Cutting.{gave_bytes, gave_marks}
use Rattle.annexb.proofs.Calling.{calls_rule}
use Rattle.counting.specs.declared.Tally.{Tally}
use Rattle.counting.specs.Tally.{wrap, gap, lengths, last_of, Tallied}
use Rattle.counting.specs.Listing.{Listing, Counted}
use Rattle.counting.proofs.Gaps.{lengths_long}

-- ---- the marks of one call

abbrev lengths_of : List (List ℕ) → List ℕ
lengths_of us = map (λ (u : List ℕ). length u % wrap) us

-- a mark m behind a start s, which stands for the place e where p bytes were given before
gap_is : (m s e p x : ℕ) → (s + p) % wrap ≡ e % wrap → e + x ≡ p + m → gap m s ≡ x % wrap
gap_is m s e p x q k = omega arith

start_is : (e o p b : ℕ) → p ≡ e + o → b ≡ o % wrap → (gap 0 b + p) % wrap ≡ e % wrap
start_is e o p b q k = omega arith

-- the units vs end at these marks, the first having started at the place e
told_units : (vs : List (List ℕ)) (e p s : ℕ) (ms : List ℕ) → ends_from e vs ≡ shifted p ms → (s + p) % wrap ≡ e % wrap
    → (lengths s ms ≡ lengths_of vs) × ((last_of s ms + p) % wrap ≡ (e + length (joined vs)) % wrap)
told_units [] e p s [] q k = (refl, k ∙ ap (λ (n : ℕ). n % wrap) (sym (add-zero e)))
told_units [] e p s (m ∷ ms) q k = absurd (let z : ⊥ = omega (arith, ap length q) in z)
told_units (v ∷ vs) e p s [] q k = absurd (let z : ⊥ = omega (arith, ap length q) in z)
told_units (v ∷ vs) e p s (m ∷ ms) q k =
    let here : e + length v ≡ p + m = head-eq_of_cons-eq q in
    let next : (m + p) % wrap ≡ (e + length v) % wrap = ap (λ (n : ℕ). n % wrap) (omega (arith, here)) in
    let more = told_units vs (e + length v) p m ms (tail-eq_of_cons-eq q) next in
    let sum : e + length v + length (joined vs) ≡ e + length (v ++ joined vs) = simp length-append (omega arith) in
    (ap₂ {C = List ℕ} ◌∷◌ (gap_is m s e p (length v) k here) more.0, more.1 ∙ ap (λ (n : ℕ). n % wrap) sum)

joined_long : (us vs : List (List ℕ)) → length (joined (us ++ vs)) ≡ length (joined us) + length (joined vs)
joined_long us vs = ap length (joined_append us vs) ∙ length-append (joined us) (joined vs)

module _ {us : List (List ℕ)} {o : ℕ} {t : Tally} {told : List ℕ} (c : Counted us o t told) (vs : List (List ℕ)) (o' p wrote : ℕ) where
  -- a call that gave `wrote` bytes behind p, and ended the units vs
  counted_more : (ms marks marks'' : List ℕ) (marked : ℕ) (t' : Tally) → take marked marks ≡ ms → marked ≡ length ms → p ≡ length (joined us) + o
      → length (joined (us ++ vs)) + o' ≡ p + wrote → ends_from 0 (us ++ vs) ≡ ends_from 0 us ++ shifted p ms
      → Tallied t marks marked wrote marks'' t' → Counted (us ++ vs) o' t' (told ++ take marked marks'')
  counted_more ms marks marks'' marked t' em el ep eb ee d =
      let s = gap 0 t.bytes in
      let e = length (joined us) in
      let own : ends_from e vs ≡ shifted p ms =
      ap (λ (n : ℕ). ends_from n vs) (sym (zero-add e))
      ∙ append_cancel_left (ends_from 0 us) (ends_from (0 + e) vs) (shifted p ms) (sym (ends_append 0 us vs) ∙ ee) in
      let tell = told_units vs e p s ms own (start_is e o p t.bytes ep c.bytes_told) in
      let many : length ms ≡ length vs = sym (lengths_long s ms) ∙ ap length tell.0 ∙ length-map vs (λ (u : List ℕ). length u % wrap) in
      let front_is : take marked marks'' ≡ lengths s ms =
      ap₂ take (el ∙ sym (lengths_long s ms)) (d.lengths_are ∙ ap (λ (l : List ℕ). with_front marks (lengths s l)) em)
      ∙ front marks (lengths s ms) in
      let sum : length (us ++ vs) ≡ length us + length vs = length-append us vs in
      let all : length (joined (us ++ vs)) ≡ e + length (joined vs) = joined_long us vs in
      record {
        lengths_told = ap₂ ◌++◌ c.lengths_told (front_is ∙ tell.0) ∙ sym (map-append (λ (u : List ℕ). length u % wrap) us vs);
        units_told = d.units_is ∙ ap₂ (λ (a b : ℕ). (a + b) % wrap) c.units_told (ap length em ∙ many) ∙ omega (arith, sum);
        bytes_told =
            d.bytes_is
            ∙ ap (λ (l : List ℕ). gap wrote (last_of s l)) em
            ∙ gap_is wrote (last_of s ms) (e + length (joined vs)) p o' tell.1 (omega (arith, all, eb));
      }

-- ---- a listing

pub listing_calls : {h : List ℕ} {s : AnnexBReader} {g e : List ℕ} {t : Tally} {told : List ℕ} → Listing h s g e t told → Calls [] h s g e
listing_calls Listing.none_yet = Calls.none_yet
listing_calls (Listing.pushed l chunk room marks s' room' marks' marks'' r t' o d) =
    Calls.pushed (listing_calls l) chunk room marks s' room' marks' r o

-- the bytes of the open unit that were given
abbrev pub open_bytes : List ℕ → ℕ
open_bytes h = length (cond (frame h).in_unit (unheld (frame h).rest) [])

given_long : {h : List ℕ} {s : AnnexBReader} {g e : List ℕ} → Calls [] h s g e → length g ≡ length (joined (frame h).closed) + open_bytes h
given_long {h} c = ap (λ (v : Seen AnnexBReader). length v.bytes) (sym (calls_rule c).open_span) ∙ length-append (joined (frame h).closed) _

ends_are : {h : List ℕ} {s : AnnexBReader} {g e : List ℕ} → Calls [] h s g e → e ≡ ends_from 0 (frame h).closed
ends_are c = ap (λ (v : Seen AnnexBReader). v.ends) (sym (calls_rule c).open_span)

-- AFTER EACH PUSH: THE LENGTHS OF THE UNITS THAT THE RULE HAS CLOSED, AND THEIR NUMBER
pub listing_rule : {h : List ℕ} {s : AnnexBReader} {g e : List ℕ} {t : Tally} {told : List ℕ} → Listing h s g e t told
    → Counted (frame h).closed (open_bytes h) t told
listing_rule Listing.none_yet = record { lengths_told = refl; units_told = refl; bytes_told = refl }
listing_rule (Listing.pushed {h} {s} {g} {e} {t} {told} l chunk room marks s' room' marks' marks'' r t' o d) =
    let p = pushed_of r in
    let c = listing_calls l in
    let new_bytes = take p.taken chunk in
    let h' = h ++ new_bytes in
    let f = frame h in
    let vs = (frame_from f.in_unit (f.rest ++ new_bytes)).closed in
    let closed : (frame h').closed ≡ f.closed ++ vs = ap (λ (x : Frame). x.closed) (split false h new_bytes) in
    let c' = Calls.pushed c chunk room marks s' room' marks' r o in
    let all : length (joined (frame h').closed) + open_bytes h' ≡ length g + p.written =
    sym (given_long c') ∙ length-append g (take p.written room') ∙ ap (λ (n : ℕ). length g + n) (ap length (gave_bytes o) ∙ sym o.wrote_is) in
    let at_ends : ends_from 0 (frame h').closed ≡ ends_from 0 f.closed ++ shifted (length g) (take p.marked marks') =
    sym (ends_are c') ∙ ap (λ (l : List ℕ). l ++ shifted (length g) (take p.marked marks')) (ends_are c) in
    subst⁻¹ (λ (us : List (List ℕ)). Counted us (open_bytes h') t' (told ++ take p.marked marks'')) closed
    (counted_more (listing_rule l) vs (open_bytes h') (length g) p.written (take p.marked marks') marks' marks'' p.marked t'
    refl (o.marked_is ∙ sym (ap length (gave_marks o))) (given_long c)
    (ap (λ (us : List (List ℕ)). length (joined us) + open_bytes h') (sym closed) ∙ all) (ap (ends_from 0) (sym closed) ∙ at_ends) d)

-- AFTER A RESET AT THE END: ALL UNITS OF THE RULE
pub listing_reset : {h : List ℕ} {s : AnnexBReader} {g e : List ℕ} {t : Tally} {told : List ℕ} → Listing h s g e t told
    → (room marks : List ℕ) (s' : AnnexBReader) (room' marks' marks'' : List ℕ) (p : Pushed) (t' : Tally)
    → FrameReset s room marks s' room' marks' (Ok p) → Tallied t marks' p.marked p.written marks'' t'
    → Counted (units_at_reset h) 0 t' (told ++ take p.marked marks'')
listing_reset {h} {s} {g} {e} {t} {told} l room marks s' room' marks' marks'' p t' o d =
    let c = listing_calls l in
    let f = frame h in
    let w = (calls_rule (Calls.reset_done c room marks s' room' marks' p o)).closed_spans.0 in
    let all : length (joined (units_at_reset h)) + 0 ≡ length g + p.written =
    add-zero _
    ∙ ap length (sym w.bytes_are)
    ∙ length-append g (take p.written room')
    ∙ ap (λ (n : ℕ). length g + n) (ap length (gave_bytes o) ∙ sym o.wrote_is) in
    let at_ends : ends_from 0 (units_at_reset h) ≡ ends_from 0 f.closed ++ shifted (length g) (take p.marked marks') =
    sym w.ends_are ∙ ap (λ (l : List ℕ). l ++ shifted (length g) (take p.marked marks')) (ends_are c) in
    counted_more (listing_rule l) (cond f.in_unit (f.rest ∷ []) []) 0 (length g) p.written (take p.marked marks') marks' marks'' p.marked
    t' refl (o.marked_is ∙ sym (ap length (gave_marks o))) (given_long c) all at_ends d
