-- WHAT THE OPERATING SYSTEM DID. No contract can say what a read put into a buffer or what a write did with one: that is what is assumed.
-- `Through fd l n` stands for it: the bytes l have gone through the descriptor fd in all, in order. It is shut: the program's proofs have it
-- only from the contract of the function that reads (`take_in`) or hands out (`hand_out`), whose proofs alone cite `through_more`, and at the
-- start. (proofs/Standing cites it too, to show that there is a listing of every stream.)
-- Each such call counts its bytes into n, modulo 2^64, which is kept from call to call: what is said of an earlier count is not said of a
-- later one, so that nothing read or handed out is forgotten or counted twice.
use Rattle.std.specs.Prelude.{◌≡◌, ℕ, ◌+◌, ◌%◌, ◌≤◌, List, [], ◌++◌, length, take, Result, Ok, Err, IfErr, refl}
use Rattle.std.proofs.Common.{arith, length-append}
use Rattle.counting.specs.Tally.{wrap}
use Rattle.lister.specs.declared.system.Failure.{Failure}
use Rattle.lister.specs.declared.system.Failure.TheVariants.{Read, Write}

pub Through : ℕ → List ℕ → ℕ → Type 0
Through fd l n = n % wrap ≡ length l % wrap

pub through_none : (fd : ℕ) → Through fd [] 0
unfolding Through
through_none fd = refl

pub through_more : (fd : ℕ) (l b : List ℕ) (n n' : ℕ) → Through fd l n → n' % wrap ≡ (n + length b) % wrap → Through fd (l ++ b) n'
unfolding Through
through_more fd l b n n' k e = simp length-append (omega arith)

-- reading gave these bytes; this text was handed to writing
abbrev pub WasRead : List ℕ → ℕ → Type 0
WasRead h n = Through 0 h n

abbrev pub WasSent : List ℕ → ℕ → Type 0
WasSent w n = Through 1 w n

-- when the count of bytes read was n, a read gave nothing: shut as `Through` is
pub Ended : ℕ → Type 0
Ended n = Unit

-- cited by the proof of `take_in` alone
pub has_ended : (n : ℕ) → Ended n
unfolding Ended
has_ended n = tt

-- how many bytes a read gave: none where it failed
abbrev pub came : Result ℕ Failure → ℕ
came (Ok n) = n
came (Err e) = 0

-- THE CONTRACT OF A READ, by its answer: what it gave stands at the front of the chunk; where it did not fail and gave nothing, the input has ended
pub record TookIn (chunk : List ℕ) (read : ℕ) (got : Result ℕ Failure) (read' : ℕ) : Type 0 where
  pub within : came got ≤ length chunk
  pub gave : (h : List ℕ) → WasRead h read → WasRead (h ++ take (came got) chunk) read'
  pub nothing : 1 ≤ length chunk → got ≡ Ok 0 → Ended read'
  pub failed : IfErr got (λ e. e ≡ Read)

-- THE CONTRACT OF A HANDING OUT
pub record HandedOut (text : List ℕ) (sent : ℕ) (r : Result Unit Failure) (sent' : ℕ) : Type 0 where
  pub handed : (w : List ℕ) → WasSent w sent → WasSent (w ++ text) sent'
  pub failed : IfErr r (λ e. e ≡ Write)
