-- THERE IS A LISTING OF EVERY STREAM, however it is cut, with as little room as three bytes and a mark.
use Rattle.std.proofs.Common.{◌≡◌, ℕ, zero, suc, ◌+◌, ◌-◌, ◌%◌, ◌≤◌, ltb, List, [], ◌∷◌, ◌++◌, length, take, drop}
use Rattle.std.proofs.Common.{Ok, sym, refl, ap, ◌∙◌, subst, append_assoc, append-nil, arith, length-drop, take-append-drop, le-ltb}
use Rattle.desk.specs.Numbers.{most}
use Rattle.desk.specs.Push.{Seen}
use Rattle.desk.specs.Room.{with_front}
use Rattle.desk.specs.declared.push.Pushed.{Pushed}
use Rattle.desk.proofs.Entering.{entry_done}
use Rattle.desk.proofs.Lists.{trail_few}
use Rattle.desk.proofs.Running.{gave_done}
use Rattle.desk.proofs.Taking.{never_7}
use Rattle.desk.proofs.Ways.{an_outcome}
use Rattle.annexb.specs.declared.AnnexBReader.{AnnexBReader}
use Rattle.annexb.specs.Rule.{frame}
use Rattle.annexb.specs.Step.{stepping}
use Rattle.annexb.specs.Answer.{entering, push_answer}
use Rattle.annexb.proofs.Laws.{none_forbidden, push_takes_one}
use Rattle.annexb.proofs.Calling.{calls_rule}
use Rattle.counting.specs.declared.Tally.{Tally}
use Rattle.counting.specs.Tally.{wrap, gap, lengths, last_of}
use Rattle.counting.specs.Listing.{Listing}
use Rattle.counting.proofs.Counting.{listing_calls}

pub record Exists (h : List ℕ) : Type 0 where
  pub state : AnnexBReader
  pub given : List ℕ
  pub ends : List ℕ
  pub tally : Tally
  pub told : List ℕ
  pub listing : Listing h state given ends tally told

-- a listing leaves no bad state
good : {h : List ℕ} (x : Exists h) → x.state.zeros ≤ 2
good {h} x =
    let reached = ap (λ (v : Seen AnnexBReader). v.state) (calls_rule (listing_calls x.listing)).open_span in
    subst (λ (r : AnnexBReader). r.zeros ≤ 2) reached (trail_few (frame h).rest)

-- one push and its tally
push_on : {h : List ℕ} → Exists h → (b : ℕ) (chunk : List ℕ) → length (b ∷ chunk) ≤ most → (n : ℕ) × (1 ≤ n) × Exists (h ++ take n (b ∷ chunk))
push_on {h} x b chunk few =
    let s = x.state in
    let a = push_answer s (b ∷ chunk) 3 1 in
    let passes : entering s (length (b ∷ chunk)) 3 1 ≡ 0 =
    entry_done (length (b ∷ chunk) ∷ 3 ∷ 1 ∷ []) (ltb 2 s.zeros) (few, (omega arith, (omega arith, tt))) (le-ltb 2 s.zeros (good x)) in
    let room = with_front (0 ∷ 0 ∷ 0 ∷ []) a.bytes in
    let marks = with_front (0 ∷ []) a.marks in
    let r : Pushed = record { taken = a.taken; written = length a.bytes; marked = length a.marks } in
    let done = never_7 stepping none_forbidden (entering s (length (b ∷ chunk)) 3 1) s (b ∷ chunk) 3 1 ∙ passes in
    let first = gap 0 x.tally.bytes in
    let ends = take r.marked marks in (
      a.taken,
      push_takes_one s b chunk 3 1 passes (omega arith) (omega arith),
      record {
        state = _;
        given = _;
        ends = _;
        tally = _;
        told = _;
        listing =
            Listing.pushed x.listing (b ∷ chunk) (0 ∷ 0 ∷ 0 ∷ []) (0 ∷ []) a.after room marks (with_front marks (lengths first ends)) (Ok r)
            (record { units = (x.tally.units + length ends) % wrap; bytes = gap r.written (last_of first ends) })
            (gave_done (an_outcome a (0 ∷ 0 ∷ 0 ∷ []) (0 ∷ [])) done)
            (record { lengths_are = refl; units_is = refl; bytes_is = refl });
      },
    )

-- chunks of at most n bytes can be listed behind whatever was
abbrev UpTo : ℕ → Type 0
UpTo n = (h chunk : List ℕ) → length chunk ≤ n → length chunk ≤ most → Exists h → Exists (h ++ chunk)

up_to_more : (n : ℕ) → UpTo n → UpTo (suc n)
up_to_more n ih h [] k few x = subst Exists (sym (append-nil h)) x
up_to_more n ih h (b ∷ chunk) k few x =
    let p = push_on x b chunk few in
    let m = p.0 in
    let front = take m (b ∷ chunk) in
    let rest = drop m (b ∷ chunk) in
    let shorter : length rest ≡ length (b ∷ chunk) - m = length-drop m (b ∷ chunk) in
    subst Exists (append_assoc h front rest ∙ ap (λ (l : List ℕ). h ++ l) (take-append-drop m (b ∷ chunk)))
    (ih (h ++ front) rest (omega (arith, p.1)) (omega (arith, p.1)) p.2)

up_to_none : UpTo 0
up_to_none h [] k few x = subst Exists (sym (append-nil h)) x
up_to_none h (b ∷ chunk) k few x = absurd (let z : ⊥ = omega arith in z)

up_to : (n : ℕ) → UpTo n
up_to zero = up_to_none
up_to (suc n) = up_to_more n (up_to n)

-- HOWEVER A STREAM IS CUT
pub chunk_on : {h : List ℕ} → Exists h → (chunk : List ℕ) → length chunk ≤ most → Exists (h ++ chunk)
chunk_on {h} x chunk few = up_to (length chunk) h chunk (omega arith) few x

-- one byte after another
pub every_stream : (h : List ℕ) → Exists h
every_stream h = from h (record { state = _; given = _; ends = _; tally = _; told = _; listing = Listing.none_yet })
  where
    from : (t : List ℕ) → {h : List ℕ} → Exists h → Exists (h ++ t)
    from [] {h} x = subst Exists (sym (append-nil h)) x
    from (b ∷ t) {h} x = subst Exists (append_assoc h (b ∷ []) t) (from t (chunk_on x (b ∷ []) (omega arith)))
