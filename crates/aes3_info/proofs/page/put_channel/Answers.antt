use Rattle.std.proofs.Common.{◌++◌, ◌∙◌, ap₂}
use Rattle.aes3_cell.proofs.Writing.{wrote-behind, wrote-is}
use Rattle.aes3_info.proofs.page.put_channel.Goals as goal

pub returns : goal.returns
returns g c =
    wrote-is (ap₂ (λ x y. x ++ y) (c.as_bytes.ensures ∙ c.status_of.ensures.text) (c.as_bytes-2.ensures ∙ c.samples_of.ensures.text))
    (wrote-behind c.write_all-2.result c.in_ok-write_all.ensures.no_failure c.in_ok-write_all.ensures.grew c.write_all-2.ensures)
