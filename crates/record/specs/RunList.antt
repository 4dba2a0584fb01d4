-- The runs of a record (document 01, "Opening, stepping on, stepping back"): how they are written, read and put back. A run list
-- holds the number of runs, then each run: the unchanged bytes since the previous run, the count, the old bytes. It is malformed
-- if it ends early, a number is malformed, a gap after the first is 0, a count is 0, or a run passes the end.
use Rattle.std.specs.Prelude.{ℕ, zero, suc, ◌+◌, ◌-◌, List, [], ◌∷◌, ◌++◌, leb, ltb, length, take, drop}
use Rattle.std.proofs.Math.Option.{Option, some}
use Rattle.laws.specs.Result.{◌>>?◌, given}
use Rattle.number.specs.Number.{read_number, write_number}
use Rattle.runs.specs.Runs.{Run, all_differ, patch}

-- the bytes of one run, of several, and of a run list
unfoldable pub run_bytes : Run → List ℕ
run_bytes r = write_number r.gap ++ write_number (length r.bytes) ++ r.bytes

unfoldable pub runs_bytes : List Run → List ℕ
runs_bytes [] = []
runs_bytes (r ∷ rs) = run_bytes r ++ runs_bytes rs

unfoldable pub list_bytes : List Run → List ℕ
list_bytes rs = write_number (length rs) ++ runs_bytes rs

-- a run that was read, and the bytes after it
pub record FirstRun : Type 0 where
  pub run : Run
  pub rest : List ℕ

-- the run at the front of s, with room bytes of the buffer left; the least gap is 0 for the first run, else 1
unfoldable pub read_run : ℕ → ℕ → List ℕ → Option FirstRun
read_run least room s =
    read_number s >>? λ g.
    given (leb least g.value) >>? λ _.
    read_number g.rest >>? λ n.
    given (ltb 0 n.value) >>? λ _.
    given (leb (g.value + n.value) room) >>? λ _.
    given (leb n.value (length n.rest)) >>? λ _.
    some (record { run = record { gap = g.value; bytes = take n.value n.rest }; rest = drop n.value n.rest })

-- runs that were read, and the bytes after them
pub record Runs : Type 0 where
  pub runs : List Run
  pub rest : List ℕ

-- k runs from the front of s
unfoldable pub read_runs : ℕ → ℕ → ℕ → List ℕ → Option Runs
read_runs zero least room s = some (record { runs = []; rest = s })
read_runs (suc k) least room s =
    read_run least room s >>? λ f.
    read_runs k 1 (room - (f.run.gap + length f.run.bytes)) f.rest >>? λ m.
    some (record { runs = f.run ∷ m.runs; rest = m.rest })

-- a run list for a buffer of size bytes
unfoldable pub read_list : ℕ → List ℕ → Option Runs
read_list size s = read_number s >>? λ n. read_runs n.value 0 size n.rest

-- what a buffer held before, and the bytes after the run list that leads back to it
pub record Before : Type 0 where
  pub buffer : List ℕ
  pub rest : List ℕ

-- runs that were read, put back into a buffer; none if an old byte equals the one that it replaces
unfoldable pub runs_back : List ℕ → Runs → Option Before
runs_back shown m = given (all_differ m.runs shown) >>? λ _. some (record { buffer = patch m.runs shown; rest = m.rest })

-- the run list at the front of s, put back into a buffer
unfoldable pub before_of : List ℕ → List ℕ → Option Before
before_of s shown = read_list (length shown) s >>? runs_back shown
