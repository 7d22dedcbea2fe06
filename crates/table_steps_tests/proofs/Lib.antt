mod Three
mod WideTarget
