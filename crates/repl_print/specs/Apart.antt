-- No text is printed and refused: the law of the converter of histories.
use Rattle.std.proofs.Common.{◌≡◌, ℕ, List, length, sym, ap, subst, ◌∙◌, inl, inr, arith}
use Rattle.repl_lsn.specs.declared.fault.HistoryFault.{HistoryFault}
use Rattle.repl_lsn.specs.declared.fault.HistoryFault.TheVariants as fault
use Rattle.repl_lsn.specs.History.{Path, canonical}
use Rattle.repl_lsn.proofs.Reading.{read_only, one_reading}
use Rattle.repl_print.specs.Histories.{IsAtLine, IsPrintable, IsWrong}

-- a fault that stands at a line is not one of memory
at_no_memory : (f : HistoryFault) (line : ℕ) → f ≡ fault.Memory → IsAtLine f line → ⊥
at_no_memory f line is at = subst (λ (g : HistoryFault). IsAtLine g line) is at

pub not_wrong : (timeline : ℕ) (text : List ℕ) (path : Path) (line : ℕ) → IsPrintable timeline text path → IsWrong timeline text line → ⊥
not_wrong timeline text path line is (inl refused) =
    at_no_memory refused.0 line (read_only timeline text refused.0 path is.of_timeline.0 is.of_timeline.1 refused.1) refused.2
not_wrong timeline text path line is (inr long) =
    let same : path ≡ long.0 = one_reading text path long.0 is.of_timeline.1 (long.1).1 (is.of_timeline.0 ∙ sym (long.1).0) in
    omega (arith, is.short, long.2, ap (λ (p : Path). length (canonical p)) same)
