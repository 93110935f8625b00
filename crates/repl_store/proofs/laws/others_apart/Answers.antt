-- The store's own files are as they were.
use Rattle.repl_store.proofs.Lending.{backs_on_apart, moments_apart, stands_apart}
use Rattle.repl_store.proofs.laws.others_apart.Goals as goal

pub returns-clause-stands : goal.returns-clause-stands
returns-clause-stands g c size old new d same stands = stands_apart size old new d same stands

pub returns-clause-backs : goal.returns-clause-backs
returns-clause-backs g c old new head s only backs = backs_on_apart (g.D.Disk.state old) (g.D.Disk.state new) head s only backs

pub returns-clause-moments : goal.returns-clause-moments
returns-clause-moments g c old new head s only backs = moments_apart (g.D.Disk.state old) (g.D.Disk.state new) head s only backs
