mod Adding
