-- Less than a header tells nothing, and a header that is not due is the fault.
use Rattle.std.proofs.Common.{ℕ, take, subst, arith}
use Rattle.repl_page.specs.declared.header.PageHeader.{PageHeader}
use Rattle.repl_page.specs.Page.{header_length}
use Rattle.repl_page.specs.Header.{IsPageFault, header_of}
use Rattle.repl_walk.proofs.RestPages.{header_differs, short_header}
use Rattle.repl_walk.proofs.rest.Rest.through_page.Goals as goal

pub returns-then-page-header-clause-answers : goal.returns-then-page-header-clause-answers
returns-then-page-header-clause-answers c timeline rest from log passed on =
    let r = c.args.self.now in
    short_header r timeline rest from c.args.tli log c.args.page.now passed c.header_size-header.ensures.size on (omega (
      arith,
      c.header_size-header.ensures.value,
    ))

pub returns-in-Err-clause-answers : goal.returns-in-Err-clause-answers
returns-in-Err-clause-answers c timeline rest from log passed on =
    let r = c.args.self.now in
    let page = c.args.page.now in
    let value = c.header_size-header.ensures.value in
    let fault : IsPageFault (header_of r.ident c.args.tli r.at r.left) (take (header_length r.ident.size r.at) page) c.in-Err.fault =
    subst (λ (n : ℕ). IsPageFault (header_of r.ident c.args.tli r.at r.left) (take n page) c.in-Err.fault) value (subst (λ (d :
    PageHeader). IsPageFault d (take c.header_size-header.result page) c.in-Err.fault) c.header-due.ensures
    c.in-Err.ensures.refused) in
    header_differs r timeline rest from c.args.tli log page c.in-Err.fault passed on (omega (arith, value)) fault
