-- The parents that are told are those at the index.
use Rattle.std.proofs.Common.{◌≡◌, List, get_or, sym, ap, ◌∙◌, subst}
use Rattle.repl_lsn.specs.declared.history.Part.{Part}
use Rattle.repl_wal.proofs.Children.{apart_in_child, differ_first}
use Rattle.repl_wal.proofs.follow.differing.Goals as goal

pub returns-in-Ok-copy : goal.returns-in-Ok-copy
returns-in-Ok-copy c =
    let path = c.args.path.now in
    let child = c.args.child.now in
    let at = c.args.at in
    let mine = c.index-as_slice-place in
    let other = c.index-as_slice-place-2 in
    let ours : c.as_slice.result.now ≡ path.parents = c.as_slice.ensures ∙ c.parents.ensures.value in
    let its : c.as_slice-2.result.now ≡ child.parents = c.as_slice-2.ensures ∙ c.parents-2.ensures.value in
    let own : c.in-Ok.own ≡ get_or path.parents at c.in-Ok.own = subst (λ (p : Part). p ≡ get_or path.parents at p) (sym c.in-Ok.ensures)
    (mine.is ∙ ap (λ (ps : List Part). get_or ps at mine.result) ours) in
    let theirs : c.in-Ok-copy.theirs ≡ get_or child.parents at c.in-Ok-copy.theirs = subst (λ (p : Part). p ≡ get_or child.parents at p)
    (sym c.in-Ok-copy.ensures) (other.is ∙ ap (λ (ps : List Part). get_or ps at other.result) its) in (
      c.requires.one_more,
      differ_first path child at c.in-Ok.own c.in-Ok-copy.theirs c.requires.differ c.requires.within
          (apart_in_child path child at c.requires.one_more c.requires.within) own theirs,
    )
