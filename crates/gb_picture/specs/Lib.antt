pub mod Shown
pub mod Escapes
pub mod Graph
pub mod Dot
pub mod Mermaid
pub mod Outline
pub mod Svg
pub mod Laws
