-- The run of a spend as the code reads it.
use Rattle.std.specs.Prelude.{ℕ, zero, suc, ◌≡◌, refl, Bool, true, false, not, ◌||◌, List, length, take, replicate, leb}
use Rattle.std.proofs.Common.{sym, ap, arith, le-leb}
use Rattle.base_lists.specs.Lists.{cells}
use Rattle.codec_forms.specs.Wire.{Parser, ◌>>=◌, done, list_of, chosen, optional_by}
use Rattle.codec_cursor.specs.Cursor.{Reads, passed, reads_then, reads_checked, ends}
use Rattle.codec_cursor.specs.Items.{Counts}
use Rattle.codec_cursor.specs.Cells.{ReadsCells}
use Rattle.book.specs.Zero.{zero_output}
use Rattle.book.specs.declared.Output.{Output}
use Rattle.archive_form.specs.Parse.{Run, unreadable, parse_output, parse_run}
use Rattle.archive_bundle_read.specs.declared.bundle.RunCells.{RunCells}

abbrev readable : Parser Run
readable = list_of 4 parse_output >>= λ os. done (record { readable = true; outputs = os })

pub record ReadsRun (base : Bool) (s : List ℕ) (c : ℕ) (r : RunCells) (e : ℕ) : Type 0 where
  pub read : Reads (parse_run base) s c (record { readable = r.readable; outputs = take r.count r.outputs }) e
  pub long : length (take r.count r.outputs) ≡ r.count
  pub same : cells 4 zero_output (take r.count r.outputs) ≡ r.outputs

pub run_unreadable : (base : Bool) {s : List ℕ} {c k m : ℕ} → Counts 1 s c k m → k ≡ 0 → ReadsRun base s c (record { readable = false; count = 0; outputs = replicate 4 zero_output }) (passed (not base) c m)
unfolding parse_run optional_by chosen
run_unreadable base {s} {c} {k} {m} h q = record { read = reads_then _ (reads_checked (λ k. not base || leb 1 k) h.reads (rule base k q)) (go _ k q); long = refl; same = refl }
  where
    rule : (base : Bool) (k : ℕ) → k ≡ 0 → not base ≡ (not base || leb 1 k)
    rule true k q = ap (leb 1) (sym q)
    rule false k q = refl

    go : (p : Parser Run) {e : ℕ} (k : ℕ) → k ≡ 0 → Reads (chosen unreadable p k) s e unreadable e
    go p zero q = ends
    go p (suc k) q = absurd (omega arith)

pub run_readable : (base : Bool) {s : List ℕ} {c k m n : ℕ} {os : List Output} {e : ℕ} → Counts 1 s c k m → (k ≡ 0 → ⊥)
    → ReadsCells 4 zero_output (λ before. parse_output) s m n os e → ReadsRun base s c (record { readable = true; count = n; outputs = os }) e
unfolding parse_run optional_by chosen
run_readable base {s} {c} {k} {m} {n} {os} {e} h q r = record { read = reads_then _ (reads_checked (λ k. not base || leb 1 k) h.reads (rule base k q)) (go k q); long = r.long; same = r.same }
  where
    rule : (base : Bool) (k : ℕ) → (k ≡ 0 → ⊥) → true ≡ (not base || leb 1 k)
    rule true k q = sym (le-leb 1 k (omega arith))
    rule false k q = refl

    go : (k : ℕ) → (k ≡ 0 → ⊥) → Reads (chosen unreadable readable k) s m (record { readable = true; outputs = take n os }) e
    go zero q = absurd (q refl)
    go (suc k) q = reads_then _ r.read ends
