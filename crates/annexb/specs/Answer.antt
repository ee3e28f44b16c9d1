-- WHAT EACH CALL ANSWERS, for all that goes in; a push, its answer and what ties them to the code are the desk's.
use Rattle.std.specs.Prelude.{ℕ, cond, ◌&&◌, List, [], ◌∷◌, Result, leb, ltb, eqb, length, replicate}
use Rattle.desk.specs.Numbers.{done, no_room, entry_of}
use Rattle.desk.specs.Push.{Answer, answers, push_by}
use Rattle.desk.specs.Steps.{Gave}
use Rattle.desk.specs.declared.push.Pushed.{Pushed}
use Rattle.desk.specs.declared.refusal.Refusal.{Refusal}
use Rattle.annexb.specs.declared.AnnexBReader.{AnnexBReader}
use Rattle.annexb.specs.Seen.{new}
use Rattle.annexb.specs.Step.{stepping}

-- the entry checks: lent buffers of c, w and m elements, and a stored run of zeros over 2
abbrev pub entering : AnnexBReader → ℕ → ℕ → ℕ → ℕ
entering s c w m = entry_of (c ∷ w ∷ m ∷ []) (ltb 2 s.zeros)

abbrev pub push_answer : AnnexBReader → List ℕ → ℕ → ℕ → Answer AnnexBReader
push_answer s chunk w m = push_by stepping entering s chunk w m

-- an open unit's held zeros and its end mark, all or nothing; outside a unit nothing; a new state
unfoldable pub closing : AnnexBReader → ℕ → ℕ → Answer AnnexBReader
closing s w m =
    cond s.in_unit
    (cond (leb s.zeros w && leb 1 m)
    (record { number = done; taken = 0; bytes = replicate s.zeros 0; marks = s.zeros ∷ []; after = new })
    (answers no_room s))
    (answers done new)

-- a reset is lent no chunk
unfoldable pub reset_answer : AnnexBReader → ℕ → ℕ → Answer AnnexBReader
reset_answer s w m = cond (eqb (entering s 0 w m) done) (closing s w m) (answers (entering s 0 w m) s)

-- THE CONTRACTS, of a push and of a reset: what is returned, the state and all of both rooms at exit are the answer's
abbrev pub FramePush : AnnexBReader → List ℕ → List ℕ → List ℕ → AnnexBReader → List ℕ → List ℕ → Result Pushed Refusal → Type 0
FramePush s chunk room marks s' room' marks' r = Gave (push_answer s chunk (length room) (length marks)) room marks s' room' marks' r

abbrev pub FrameReset : AnnexBReader → List ℕ → List ℕ → AnnexBReader → List ℕ → List ℕ → Result Pushed Refusal → Type 0
FrameReset s room marks s' room' marks' r = Gave (reset_answer s (length room) (length marks)) room marks s' room' marks' r
