-- A number is its quotient times the divisor plus its remainder, for 65536 and for any divisor that is not 0.
use Rattle.std.proofs.Common.{◌+◌, ◌*◌, ◌<◌, mod-lt, div-add-mod', arith, le-leb}
use borrow.Author.Tests.{lt-leb}
use Rattle.alu.specs.Products.{product, divided}
use Rattle.alu.specs.Laws.{ProductWhole, DividedWhole, DividedStays}

pub product_whole : ProductWhole
unfolding product
product_whole a b = div-add-mod' (a * b) 65536

pub divided_whole : DividedWhole
unfolding divided
divided_whole d p l =
    let some : 0 < d = omega arith in
    rw (lt-leb d p.high l) (div-add-mod' (p.high * 65536 + p.low) d, mod-lt (p.high * 65536 + p.low) some)

pub divided_stays : DividedStays
unfolding divided
divided_stays d p l = rw (le-leb d p.high l)
