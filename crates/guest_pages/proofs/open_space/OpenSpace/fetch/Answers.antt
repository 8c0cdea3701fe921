use Rattle.std.proofs.Common.{◌≡◌, ℕ, ◌+◌, ◌/◌, ◌%◌, ◌-◌, ◌≤◌, ◌<◌, ◌^◌, sym, ap, subst, ◌∙◌, arith, rules}
use Rattle.std.specs.Prelude.{Some, Ok, option_map}
use Rattle.std.specs.FinMap as map
use Rattle.plain_process.specs.declared.memory.Right.TheVariants.{Execute}
use Rattle.plain_process.specs.Memory.{Memory, little_endian, fetch}
use Rattle.guest_pages.specs.Bytes.{bytes_from}
use Rattle.guest_pages.specs.FrameTable.{opened}
use Rattle.guest_pages.specs.Refusals.{granted}
use Rattle.guest_pages.proofs.InPage.{bytes_at-in_page, bytes_of}
use Rattle.guest_pages.proofs.OpenTables.{get-code, granted-execute}
use Rattle.guest_pages.proofs.open_space.OpenSpace.fetch.Goals as goal

-- an address that is less than a page past the start of one
place : (a start : ℕ) → a < 2 ^ 32 → start < 2 ^ 32 → start % 4096 ≡ 0 → (a + (2 ^ 32 - start)) % 2 ^ 32 ≤ 4092 → (a + (2 ^ 32 - start)) % 2 ^ 32 ≡ a % 4096
place a start fa fs whole near = omega arith

page : (a start : ℕ) → a < 2 ^ 32 → start < 2 ^ 32 → start % 4096 ≡ 0 → (a + (2 ^ 32 - start)) % 2 ^ 32 ≤ 4092 → a / 4096 ≡ start / 4096
page a start fa fs whole near = omega arith

pub returns : goal.returns
returns c =
    let a = c.args.address in
    let start = c.self.inside.start in
    let code = c.self.inside.code in
    let m = opened c.self.inside.blocks.items start code in
    let fits : start < 2 ^ 32 = search rules in
    let offset = place a start c.ranges.address.fits fits c.self.invariant.aligned c.if-offset.false in
    let inside : a % 4096 + 4 ≤ 4096 = omega (arith, c.if-offset.false, offset) in
    let there : granted Execute (map.get m (a / 4096)) ≡ Ok code =
    ap (granted Execute) (get-code c.self.inside.blocks.items start (a / 4096) code (page a start c.ranges.address.fits fits c.self.invariant.aligned c.if-offset.false))
    ∙ granted-execute code c.self.invariant.executable in
    let here : fetch m a ≡ Some c.word_in.result =
    ap (option_map little_endian) (bytes_at-in_page m Execute a 4 (omega arith) inside ∙ ap (bytes_of (a % 4096) 4) there)
    ∙ ap (λ value. Some value)
    (sym (c.word_in.ensures ∙ (λ i. little_endian (bytes_from (c.as_slice.ensures.bytes i) (offset i) 4)))) in
    subst (λ (now : Memory). fetch now a ≡ Some c.word_in.result) c.self.view_is here
