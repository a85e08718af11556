use Rattle.std.proofs.Common.{◌≡◌, IfSome, subst, ◌∙◌, sym}
use Rattle.std.proofs.lemmas.Slice.Eq.{bytes_eq-Decides}
use Rattle.cell_parser.proofs.MadeNames.{found_same, added_same}
use Rattle.cell_parser.proofs.names.Names.named.Goals as goal

pub returns-in-Some-clause-name : goal.returns-in-Some-clause-name
returns-in-Some-clause-name c =
    let bytes = c.args.bytes.now in
    c.in_ok-copy.ensures ∙ found_same bytes _ (λ k. (bytes_eq-Decides bytes k.now).0) c.args.self.now.made.entries _ c.args.self.now.same (sym c.in-Some.ensures.value)

pub invariant_of-self-2 : goal.invariant_of-self-2
invariant_of-self-2 c =
    let made = subst (λ found. IfSome found (λ name. name ≡ c.args.bytes.now)) c.in-Some-2.is c.in_ok-name.ensures.bytes in
    record {
      same = added_same _ c.args.self.now.made c.insert.new.self c.args.bytes c.in_ok-copy-2.field-0 c.insert.result c.args.self.now.same
          (c.in_ok-copy-2.ensures ∙ made) (sym c.in_default.ensures.value) c.insert.ensures.entries c.insert.ensures.err;
    }
