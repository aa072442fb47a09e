-- `Laws`: pages and stores of any image. `Headers`: what a page's bytes read as. `Back`: what was stored reads back, and which
-- stores are clean.
pub mod Laws
pub mod Headers
pub mod Back
