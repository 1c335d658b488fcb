mod Lives
